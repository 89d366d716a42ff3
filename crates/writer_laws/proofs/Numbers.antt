-- An interface that was written from plain numbers says them.
use Rattle.std.proofs.lemmas.Bool.{and_parts}
use Rattle.std.specs.Prelude.{Ok, max}
use Prim.Native.Nat.{ℕ, zero, suc, ◌+◌, ◌-◌, ◌*◌, ◌/◌, ◌%◌, ◌<◌, ◌≤◌}
use native.Mathlib.Omega.{arith}
use mathlib.Core.Path.{◌≡◌, refl, ap, sym, subst, ◌∙◌}
use mathlib.Core.List.{List, [], ◌∷◌, ◌++◌, append_assoc}
use mathlib.Core.Bool.{true, ◌&&◌}
use lib.ListN.{drop, get_or, length, length-append, length-drop}
use lib.Seq.{get_or-drop}
use lib.Dec.{eqb, leb}
use borrow.Author.Tests.{eq-eqb, eqb-true, le-ltb, leb-true}
use Rattle.words.specs.Words.{byte_at, half_at}
use Rattle.words.specs.Layout.{left}
use Rattle.words.specs.Written.{word_bytes}
use Rattle.urb.specs.Interfaces.{interfaces_of}
use Rattle.urb.proofs.Walk.{pipes_closed}
use Rattle.pieces.specs.Interface.{interface_bytes, narrow_from, numbers_allowed, numbers_bytes}
use Rattle.pieces.proofs.Numbers.{interface_length}
use Rattle.writer_laws.specs.Places.{WordStands}
use Rattle.writer_laws.specs.Numbers.{InterfaceSays}
use Rattle.writer_laws.proofs.Places.{word_behind}

-- numbers written as words stand one behind the other
words_stand : (ns pre rest w : List ℕ) (at : ℕ) → w ≡ pre ++ (numbers_bytes ns ++ rest) → at ≡ length pre → (k place : ℕ) → k < length ns → place ≡ at + 4 * k → get_or ns k 0 < 4294967296 → WordStands w place (get_or ns k 0)
unfolding numbers_bytes
words_stand [] pre rest w at e l k place h p b = absurd (omega arith)
words_stand (n ∷ ns) pre rest w at e l zero place h p b = let z : place ≡ at = omega arith in rw z (word_behind pre n (numbers_bytes ns ++ rest) w at e l b)
words_stand (n ∷ ns) pre rest w at e l (suc k) place h p b =
    words_stand ns (pre ++ word_bytes n) rest w (at + 4) (e ∙ sym (append_assoc pre (word_bytes n) (numbers_bytes ns ++ rest))) (rw (length-append, l)) k place (omega arith) (omega arith) b

narrow_at : (ns : List ℕ) (at k j place : ℕ) → narrow_from ns at k ≡ true → j < k → place ≡ at + 3 * j → get_or ns place 0 ≤ 65535
unfolding narrow_from
narrow_at ns at zero j place e h p = absurd (omega arith)
narrow_at ns at (suc k) zero place e h p = let z : place ≡ at = omega arith in rw z (leb-true (get_or ns at 0) 65535 (and_parts (leb (get_or ns at 0) 65535) (narrow_from ns (at + 3) k) e).0)
narrow_at ns at (suc k) (suc j) place e h p = narrow_at ns (at + 3) k j place (and_parts (leb (get_or ns at 0) 65535) (narrow_from ns (at + 3) k) e).1 (omega arith) (omega arith)

-- numbers below 65,536, two of them in one word
low : (a b : ℕ) → a < 65536 → (a + 65536 * b) % 65536 ≡ a
low a b h = omega arith

high : (a b : ℕ) → a < 65536 → (a + 65536 * b) / 65536 ≡ b
high a b h = omega arith

small : (a : ℕ) → a ≤ 65535 → (a % 65536 ≡ a) × (a / 65536 ≡ 0)
small a h = (omega arith, omega arith)

pub says : (ns pre rest w : List ℕ) (at : ℕ) → numbers_allowed ns ≡ true → ((j : ℕ) → get_or ns j 0 < 4294967296) → w ≡ pre ++ (interface_bytes ns ++ rest) → at ≡ length pre → InterfaceSays w at ns
unfolding numbers_allowed interface_bytes interfaces_of
says ns pre rest w at allowed wide e l =
    let n = length ns in
    let b6 = narrow_from ns 3 (n / 3 - 1) in
    let b5 = leb (get_or ns 2 0) 255 in
    let b4 = leb (get_or ns 1 0) 255 in
    let b3 = leb (get_or ns 0 0) 65535 in
    let b2 = eqb (n % 3) 0 in
    let b1 = leb n 93 in
    let g0 = and_parts (leb 3 n) (b1 && (b2 && (b3 && (b4 && (b5 && b6))))) allowed in
    let g1 = and_parts b1 (b2 && (b3 && (b4 && (b5 && b6)))) g0.1 in
    let g2 = and_parts b2 (b3 && (b4 && (b5 && b6))) g1.1 in
    let g3 = and_parts b3 (b4 && (b5 && b6)) g2.1 in
    let g4 = and_parts b4 (b5 && b6) g3.1 in
    let g5 = and_parts b5 b6 g4.1 in
    let n3 = leb-true 3 n g0.0 in let n93 = leb-true n 93 g1.0 in let t3 = eqb-true (n % 3) 0 g2.0 in
    let a0 = leb-true (get_or ns 0 0) 65535 g3.0 in let a1 = leb-true (get_or ns 1 0) 255 g4.0 in let a2 = leb-true (get_or ns 2 0) 255 g5.0 in
    let first = 4 * n + 65536 * get_or ns 0 0 in
    let second = get_or ns 1 0 + 256 * get_or ns 2 0 in
    let third = n / 3 - 1 in
    let tail = numbers_bytes (drop 3 ns) in
    let s0 = word_behind pre first (word_bytes second ++ (word_bytes third ++ (tail ++ rest))) w at e l (bound_0 n (get_or ns 0 0) n93 a0) in
    let s1 = word_behind (pre ++ word_bytes first) second (word_bytes third ++ (tail ++ rest)) w (at + 4) (e ∙ sym (append_assoc pre (word_bytes first) (word_bytes second ++ (word_bytes third ++ (tail ++ rest))))) (rw (length-append, l)) (bound_1 (get_or ns 1 0) (get_or ns 2 0) a1 a2) in
    let s2 = word_behind (pre ++ (word_bytes first ++ word_bytes second)) third (tail ++ rest) w (at + 8) (e ∙ sym (append_assoc pre (word_bytes first ++ word_bytes second) (word_bytes third ++ (tail ++ rest)))) (rw (length-append, l)) (bound_2 n n93) in
    let ws = words_stand (drop 3 ns) (pre ++ (word_bytes first ++ (word_bytes second ++ word_bytes third))) rest w (at + 12) (e ∙ sym (append_assoc pre (word_bytes first ++ (word_bytes second ++ word_bytes third)) (tail ++ rest))) (rw (length-append, l)) in
    record {
      bytes = s0.1 ∙ low (4 * n) (get_or ns 0 0) (below n n93);
      expected = s0.2 ∙ high (4 * n) (get_or ns 0 0) (below n n93);
      number = s1.3 ∙ byte_0 (get_or ns 1 0) (get_or ns 2 0) a1;
      setting = let z : at + 4 + 1 ≡ at + 5 = omega arith in ap (λ k. byte_at w k) (sym z) ∙ byte_1 (byte_at w (at + 4)) (byte_at w (at + 4 + 1)) (get_or ns 1 0) (get_or ns 2 0) s1.1 s1.3 a1 a2;
      padding = let z : at + 4 + 2 ≡ at + 6 = omega arith in ap (λ k. half_at w k) (sym z) ∙ (s1.2 ∙ upper (get_or ns 1 0) (get_or ns 2 0) a1 a2);
      count = s2.0;
      pipes = λ j h.
          let d = length-drop 3 ns in
          let k0 = get_or-drop 3 ns (3 * j) 0 in
          let k1 = get_or-drop 3 ns (3 * j + 1) 0 ∙ ap (λ k. get_or ns k 0) (plus_1 j) in
          let k2 = get_or-drop 3 ns (3 * j + 2) 0 ∙ ap (λ k. get_or ns k 0) (plus_2 j) in
          let w0 = ws (3 * j) (at + 12 + 12 * j) (subst (λ x. 3 * j < x) (sym d) (inside_0 j n h)) (omega arith) (subst (λ x. x < 4294967296) (sym k0) (wide (3 + 3 * j))) in
          let w1 = ws (3 * j + 1) (at + 12 + 12 * j + 4) (subst (λ x. 3 * j + 1 < x) (sym d) (inside j 1 n h (omega arith))) (omega arith) (subst (λ x. x < 4294967296) (sym k1) (wide (3 + 3 * j + 1))) in
          let w2 = ws (3 * j + 2) (at + 12 + 12 * j + 8) (subst (λ x. 3 * j + 2 < x) (sym d) (inside j 2 n h (omega arith))) (omega arith) (subst (λ x. x < 4294967296) (sym k2) (wide (3 + 3 * j + 2))) in
          let q = small (get_or ns (3 + 3 * j) 0) (narrow_at ns 3 (n / 3 - 1) j (3 + 3 * j) g5.1 h refl) in
          record { packet = w0.1 ∙ (ap (λ x. x % 65536) k0 ∙ q.0); padding = w0.2 ∙ (ap (λ x. x / 65536) k0 ∙ q.1); transfer = w1.0 ∙ k1; flags = w2.0 ∙ k2 };
      walked = λ most. let h : at + 4 * n ≤ length w = reaches e l n3 in
          rw (
            le-ltb (left w at) 12 (room at n (length w) n3 h),
            s2.0,
            eq-eqb (half_at w at) (12 + 12 * (n / 3 - 1)) (s0.1 ∙ (low (4 * n) (get_or ns 0 0) (below n n93) ∙ rows n n3 t3)),
            pipes_closed w (interfaces_of w 0 (max most (n / 3 - 1))) (n / 3 - 1) (at + 12),
            le-ltb (left w (at + 12) / 12) (n / 3 - 1) (more at n (length w) n3 t3 h),
          ) (ap (λ k. Ok (k, (max most (n / 3 - 1)))) (ends at n n3 t3));
    }
  where
    below : (n : ℕ) → n ≤ 93 → 4 * n < 65536
    below n h = omega arith

    byte_0 : (a b : ℕ) → a ≤ 255 → (a + 256 * b) % 256 ≡ a
    byte_0 a b h = omega arith

    byte_1 : (x y a b : ℕ) → x + 256 * y ≡ (a + 256 * b) % 65536 → x ≡ (a + 256 * b) % 256 → a ≤ 255 → b ≤ 255 → y ≡ b
    byte_1 x y a b e f h g = let p : (a + 256 * b) % 65536 ≡ a + 256 * b = omega arith in let q : (a + 256 * b) % 256 ≡ a = omega arith in omega arith

    upper : (a b : ℕ) → a ≤ 255 → b ≤ 255 → (a + 256 * b) / 65536 ≡ 0
    upper a b h g = omega arith

    plus_1 : (j : ℕ) → 3 + (3 * j + 1) ≡ 3 + 3 * j + 1
    plus_1 j = omega arith

    plus_2 : (j : ℕ) → 3 + (3 * j + 2) ≡ 3 + 3 * j + 2
    plus_2 j = omega arith

    inside : (j k n : ℕ) → j < n / 3 - 1 → k ≤ 2 → 3 * j + k < n - 3
    inside j k n h g = omega arith

    inside_0 : (j n : ℕ) → j < n / 3 - 1 → 3 * j < n - 3
    inside_0 j n h = omega arith

    room : (at n l : ℕ) → 3 ≤ n → at + 4 * n ≤ l → 12 ≤ l - at
    room at n l h g = omega arith

    rows : (n : ℕ) → 3 ≤ n → n % 3 ≡ 0 → 4 * n ≡ 12 + 12 * (n / 3 - 1)
    rows n h g = omega arith

    more : (at n l : ℕ) → 3 ≤ n → n % 3 ≡ 0 → at + 4 * n ≤ l → n / 3 - 1 ≤ (l - (at + 12)) / 12
    more at n l h g k = omega arith

    ends : (at n : ℕ) → 3 ≤ n → n % 3 ≡ 0 → at + 12 + 12 * (n / 3 - 1) ≡ at + 4 * n
    ends at n h g = omega arith

    reaches : w ≡ pre ++ (interface_bytes ns ++ rest) → at ≡ length pre → 3 ≤ length ns → at + 4 * length ns ≤ length w
    reaches e l h = rw (e, length-append, length-append, interface_length ns h, l) (omega arith)

    bound_0 : (n a : ℕ) → n ≤ 93 → a ≤ 65535 → 4 * n + 65536 * a < 4294967296
    bound_0 n a h g = omega arith

    bound_1 : (a b : ℕ) → a ≤ 255 → b ≤ 255 → a + 256 * b < 4294967296
    bound_1 a b h g = omega arith

    bound_2 : (n : ℕ) → n ≤ 93 → n / 3 - 1 < 4294967296
    bound_2 n h = omega arith
