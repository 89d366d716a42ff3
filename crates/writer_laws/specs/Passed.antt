-- What the theorems say of a call on a table.
use Rattle.std.specs.Prelude.{ℕ, ◌≤◌, ◌≡◌, ◌⊎◌, List, cond, length, ltb, Some, Ok, Err}
use Rattle.words.specs.Words.{word_at}
use Rattle.header.specs.Ids.{interface_in, mask_in, message_in}
use Rattle.header.specs.declared.shared_msg_header.Header.{Header}
use Rattle.answers.specs.Answer.{answer_number}
use Rattle.answers.specs.declared.answer.Answer.{Answer}
use Rattle.answers.specs.declared.kind.Kind.{Kind}
use Rattle.kinds.specs.Kinds.{first_fitting, kinds}
use Rattle.channel.specs.declared.channel.Channel.{Channel}
use Rattle.writer.specs.Message.{bytes_of, written_of}
use Rattle.fields.specs.Message.{fields_in}
use Rattle.writer_laws.specs.Layout.{Kept, cleared_from}
use Rattle.writer_laws.specs.Rebuilt.{layout_of}
use Rattle.pieces.specs.declared.piece.Unwritten.TheVariants as unwritten

-- a call passes checks 3 to 8: it is accepted, or refused for what a row or the rows of its channel say
abbrev pub Passing : ℕ → Type 0
Passing n = (n ≡ 0) ⊎ (9 ≤ n)

abbrev pub Passes : Answer → Type 0
Passes a = Passing (answer_number a)

-- the header of a message
abbrev pub head_in : List ℕ → Header
head_in m = record { interface = interface_in (word_at m 0); mask = mask_in (word_at m 0); message = message_in (word_at m 4); function = word_at m 8 }

-- a message of a side, on a channel, has a kind
abbrev pub HasKind : Channel → ℕ → List ℕ → Kind → Type 0
HasKind c side m k = first_fitting kinds (head_in m) side c.device c.callback ≡ Some k

-- a message of a kind, written again from its fields with itself as the lent bytes, is as long, and is the same bytes but for its padding, which is 0
pub record Again (m : List ℕ) (k : Kind) : Type 0 where
  pub answer : (room : ℕ) → written_of (message_in (word_at m 4)) (fields_in k m) m room ≡ cond (ltb room (length m)) (Err unwritten.Room) (Ok (length m))
  pub bytes : bytes_of (message_in (word_at m 4)) (fields_in k m) m ≡ cleared_from m 0 (layout_of k m)
  pub long : length (bytes_of (message_in (word_at m 4)) (fields_in k m) m) ≡ length m
  -- and where its layout has no padding, it is the very same bytes
  pub same : Kept (layout_of k m) → bytes_of (message_in (word_at m 4)) (fields_in k m) m ≡ m
