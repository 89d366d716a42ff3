-- Demand 3, whole: reorder the calls of a run, each channel's order kept, and there are the same answers, payloads, entries and rows but for numbers, and each cause names the same call;
-- and in either journal every accepted completion names one earlier accepted request of its channel, and, as 02 R-2 has it, of those that name one request at most one is a cancel and at most one a
-- completion; no cancel names a request after its completion; and no accepted retract or close of its channel stands between a request and an entry that names it.
use Rattle.std.specs.Prelude.{ℕ, zero, suc, ◌≡◌, List, [], ◌∷◌, map, eqb, get_or, length, Option, Some, None, option_map}
use Rattle.channel.specs.Rows.{in_channel, in_row}
use Rattle.channel.specs.declared.channel.Channel.{Channel}
use Rattle.channel.specs.declared.row.Open.{Open}
use Rattle.channel.specs.declared.row.Row.{Row}
use Rattle.answers.specs.declared.answer.Answer.{Answer}
use Rattle.answers.specs.declared.entry.Entry.{Entry}
use Rattle.payloads.specs.Payload.{payload_of, start_of}
use Rattle.table.specs.Table.{open_of}
use Rattle.table.specs.declared.table.Table.{Table}
use Rattle.journal.specs.Calls.{after, Asks, Call, called, closing, judging}
use Rattle.journal.specs.Journal.{journal_of}
use Rattle.order.specs.Machine.{keep, Tagged}
use Rattle.order.specs.Reorder.{Reordered, Renumbers}
use Rattle.promises.specs.Names.{AllName}

-- ---- what a run of calls gives
-- the payload of a call, its bytes and the byte of the message at which it starts; a close has none
abbrev pub payload_by : Table → ℕ → Asks → List ℕ
payload_by t channel (judging side stamp m) = payload_of t channel side m
payload_by t channel (closing stamp) = []

abbrev pub start_by : Table → ℕ → Asks → ℕ
start_by t channel (judging side stamp m) = start_of t channel side m
start_by t channel (closing stamp) = 0

pub record Done : Type 0 where
  pub channel : ℕ
  pub answer : Answer
  pub entry : Option Entry
  pub payload : List ℕ
  pub start : ℕ

abbrev pub done_by : Table → Call → Done
done_by t x =
    record { channel = x.channel; answer = (called t x).answer; entry = (called t x).entry; payload = payload_by t x.channel x.asks; start = start_by t x.channel x.asks }

abbrev pub run : Table → List Call → List Done
run t [] = []
run t (x ∷ xs) = done_by t x ∷ run (called t x).table xs

-- of a run what the calls of channel d gave, in their order; and the entries of what was given
abbrev pub done_on : ℕ → List Done → List Done
done_on d [] = []
done_on d (x ∷ xs) = keep (eqb x.channel d) x (done_on d xs)

abbrev pub with_entry : Option Entry → List Entry → List Entry
with_entry None es = es
with_entry (Some e) es = e ∷ es

abbrev pub entries_of : List Done → List Entry
entries_of [] = []
entries_of (x ∷ xs) = with_entry x.entry (entries_of xs)

-- the j-th entry of channel d in a run from a table opened at k, counted from 0, which is that of its j-th call where no number is lacking; past the last one an entry of zeros
abbrev pub no_entry : Entry
no_entry = record { number = 0; channel = 0; side = 0; kind = 0; answer = 0; request = 0; cause = 0; size = 0; stamp = 0 }

abbrev pub entry_on : ℕ → List Call → ℕ → ℕ → Entry
entry_on k xs d j = get_or (entries_of (done_on d (run (open_of k) xs))) j no_entry

-- ---- the same calls in two orders: every channel has the same list of calls in both
abbrev pub tagged : Call → Tagged Asks
tagged x = record { chan = x.channel; call = x.asks }

abbrev pub SameCalls : List Call → List Call → Type 0
SameCalls xs ys = Reordered (map tagged xs) (map tagged ys)

-- ---- the same but for numbers: each journal number n is f n, and nothing else is another
abbrev pub ren_entry : (ℕ → ℕ) → Entry → Entry
ren_entry f e = record e { number = f e.number; cause = f e.cause }

abbrev pub ren_noted : (ℕ → ℕ) → Option Entry → Option Entry
ren_noted f e = option_map (ren_entry f) e

abbrev pub ren_done : (ℕ → ℕ) → Done → Done
ren_done f d = record d { entry = ren_noted f d.entry }

abbrev pub ren_open : (ℕ → ℕ) → Open → Open
ren_open f o = record o { number = f o.number }

abbrev pub ren_row : (ℕ → ℕ) → Row → Row
ren_row f r = in_row (ren_open f) r

abbrev pub ren_channel : (ℕ → ℕ) → Channel → Channel
ren_channel f c = in_channel (ren_open f) c

-- ---- the demand
-- n, n + 1, and so on, so many
abbrev pub up_from : ℕ → ℕ → List ℕ
up_from n zero = []
up_from n (suc k) = n ∷ up_from (suc n) k

-- of the journal of a run from a table opened at k
pub record Journalled (k : ℕ) (xs : List Call) : Type 0 where
  -- it is the entries of the calls in their order, one for each, with the numbers k, k + 1, and so on
  pub entries : journal_of (open_of k) xs ≡ entries_of (run (open_of k) xs)
  pub numbers : map (λ (e : Entry). e.number) (journal_of (open_of k) xs) ≡ up_from k (length xs)
  -- and which entry names which
  pub names : AllName [] (journal_of (open_of k) xs)

pub record Demand3 (k : ℕ) (xs ys : List Call) (f : ℕ → ℕ) : Type 0 where
  -- f takes each call's number in the one run to the same call's number in the other, and 0 to 0
  pub renumbers : Renumbers k (map tagged xs) (map tagged ys) f
  -- on every channel, those above 7 too, each call gets the same answer, the same payload at the same place, and the same entry but for its number and its cause, which go through f
  pub given : (d : ℕ) → done_on d (run (open_of k) ys) ≡ map (ren_done f) (done_on d (run (open_of k) xs))
  -- each cause names the same call: where the j-th call of a channel names the i-th in the one run, it does so in the other
  pub causes : (d i j : ℕ) → (entry_on k xs d j).cause ≡ (entry_on k xs d i).number → (entry_on k ys d j).cause ≡ (entry_on k ys d i).number
  -- the next number is the same; each channel has the same phase, device, callback and NoAck milliseconds, and the same rows but for their numbers, which go through f
  pub next : (after (open_of k) ys).next ≡ (after (open_of k) xs).next
  pub channels : (after (open_of k) ys).channels ≡ map (ren_channel f) (after (open_of k) xs).channels
  -- and so much holds of either journal
  pub one : Journalled k xs
  pub other : Journalled k ys
