-- 01 "Shown of the rules themselves": the cases C1 to C12, each with what the document says of it, and behind them what 02 R-2 says of C1's request once it is cancelled. Stamps are made up; no case has one.
use Rattle.std.specs.Prelude.{ℕ, Bool, false, true, List, [], ◌∷◌, ◌++◌, length, replicate, take, Option, Some, None}
use Rattle.channel.specs.Rows.{free_row, new_channel}
use Rattle.channel.specs.declared.row.Row.{Row}
use Rattle.channel.specs.declared.row.Sort.TheVariants.{In}
use Rattle.answers.specs.Answer.{answer_number}
use Rattle.table.specs.Table.{open_of}
use Rattle.table.specs.declared.table.Table.{Table}
use Rattle.journal.specs.Calls.{after, Asks, Call, called, closing, judging}
use Rattle.promises.specs.Demand3.{payload_by, start_by, up_from}
use Rattle.answers.specs.declared.entry.Entry.{Entry}

-- what is shown of a call: how long its message is, its answer's number, its entry, its payload with the byte at which it starts, and the whole table afterwards
pub record Shown : Type 0 where
  pub size : ℕ
  pub answer : ℕ
  pub entry : Option Entry
  pub payload : List ℕ
  pub start : ℕ
  pub table : Table

-- a call on the table that other calls have left
pub record Case : Type 0 where
  pub start : Table
  pub before : List Call
  pub call : Call
  pub shows : Shown

abbrev pub size_by : Asks → ℕ
size_by (judging side stamp m) = length m
size_by (closing stamp) = 0

abbrev pub shown : Table → Call → Shown
shown t x =
    record { size = size_by x.asks; answer = answer_number (called t x).answer; entry = (called t x).entry; payload = payload_by t x.channel x.asks; start = start_by t x.channel x.asks; table = (called t x).table }

abbrev pub outcome : Case → Shown
outcome k = shown (after k.start k.before) k.call

-- a table whose channel 0 is in this phase, with device 4, callback 5, NoAck 0 and these rows; other channels new
abbrev pub table_in : ℕ → ℕ → List Row → Table
table_in phase next rows =
    record { next = next; channels = record { phase = phase; device = Some (record { 0 = 4 }); callback = Some (record { 0 = 5 }); jitter = 0; rows = rows } ∷ replicate 7 new_channel }

abbrev pub table_of : ℕ → List Row → Table
table_of next rows = table_in 5 next rows

abbrev pub none : List Row
none = replicate 16 free_row

-- the rows with C1's request in row 0, under a journal number, marked or not
abbrev pub holding7 : ℕ → Bool → List Row
holding7 number mark = record { sort = In (record { request = record { 0 = 7 }; number = number; size = 64; marked = mark }) } ∷ replicate 15 free_row

abbrev pub open7 : List Row
open7 = holding7 10 false

abbrev pub marked7 : List Row
marked7 = holding7 10 true

-- ready: no rows, next 10
abbrev pub ready : Table
ready = table_of 10 none

abbrev pub transfer_in : List ℕ
transfer_in =
    0x04 ∷ 0x00 ∷ 0x00 ∷ 0x40 ∷ 0x01 ∷ 0x00 ∷ 0x00 ∷ 0x00 ∷ 0x05 ∷ 0x01 ∷ 0x00 ∷ 0x00 ∷ 0x10 ∷ 0x00 ∷ 0x00 ∷ 0x00 ∷ 0x10 ∷ 0x00 ∷ 0x09 ∷ 0x00 ∷ 0x07 ∷ 0x00 ∷ 0x00 ∷ 0x00 ∷ 0x11 ∷ 0x00 ∷ 0x00 ∷ 0x00 ∷ 0x03 ∷ 0x00 ∷ 0x00 ∷ 0x00 ∷ 0x40 ∷ 0x00 ∷ 0x00 ∷ 0x00 ∷ []

abbrev pub transfer_in_no_ack : List ℕ
transfer_in_no_ack =
    0x04 ∷ 0x00 ∷ 0x00 ∷ 0x40 ∷ 0x01 ∷ 0x00 ∷ 0x00 ∷ 0x00 ∷ 0x05 ∷ 0x01 ∷ 0x00 ∷ 0x00 ∷ 0x10 ∷ 0x00 ∷ 0x00 ∷ 0x00 ∷ 0x10 ∷ 0x00 ∷ 0x09 ∷ 0x00 ∷ 0x07 ∷ 0x00 ∷ 0x00 ∷ 0x80 ∷ 0x11 ∷ 0x00 ∷ 0x00 ∷ 0x00 ∷ 0x03 ∷ 0x00 ∷ 0x00 ∷ 0x00 ∷ 0x40 ∷ 0x00 ∷ 0x00 ∷ 0x00 ∷ []

-- a completion of request 7 with so many bytes of data, in its OutputBufferSize and behind it
abbrev pub completion : ℕ → List ℕ → List ℕ
completion size bytes =
    0x05 ∷ 0x00 ∷ 0x00 ∷ 0x40 ∷ 0x02 ∷ 0x00 ∷ 0x00 ∷ 0x00 ∷ 0x01 ∷ 0x01 ∷ 0x00 ∷ 0x00 ∷ 0x07 ∷ 0x00 ∷ 0x00 ∷ 0x00 ∷ 0x08 ∷ 0x00 ∷ 0x00 ∷ 0x00 ∷ 0x08 ∷ 0x00 ∷ 0x00 ∷ 0x00 ∷ 0x00 ∷ 0x00 ∷ 0x00 ∷ 0x00 ∷ 0x00 ∷ 0x00 ∷ 0x00 ∷ 0x00 ∷ size ∷ 0x00 ∷ 0x00 ∷ 0x00 ∷ bytes

-- a cancel of a RequestId below 256
abbrev pub cancel_of : ℕ → List ℕ
cancel_of id =
    0x04 ∷ 0x00 ∷ 0x00 ∷ 0x40 ∷ 0x03 ∷ 0x00 ∷ 0x00 ∷ 0x00 ∷ 0x00 ∷ 0x01 ∷ 0x00 ∷ 0x00 ∷ id ∷ 0x00 ∷ 0x00 ∷ 0x00 ∷ []

abbrev pub retract : List ℕ
retract =
    0x04 ∷ 0x00 ∷ 0x00 ∷ 0x40 ∷ 0x03 ∷ 0x00 ∷ 0x00 ∷ 0x00 ∷ 0x07 ∷ 0x01 ∷ 0x00 ∷ 0x00 ∷ 0x01 ∷ 0x00 ∷ 0x00 ∷ 0x00 ∷ []

abbrev pub server : ℕ → List ℕ → Call
server stamp m = record { channel = 0; asks = judging 1 stamp m }

abbrev pub client : ℕ → List ℕ → Call
client stamp m = record { channel = 0; asks = judging 2 stamp m }

abbrev pub close : ℕ → Call
close stamp = record { channel = 0; asks = closing stamp }

abbrev pub c1 : Call
c1 = server 100 transfer_in

abbrev pub c2 : Call
c2 = client 90 (completion 2 (0xAA ∷ 0xBB ∷ []))

-- an entry by its nine fields in 01's order
abbrev pub says : ℕ → ℕ → ℕ → ℕ → ℕ → ℕ → ℕ → ℕ → ℕ → Option Entry
says number channel side kind answer request cause size stamp =
    Some (record { number = number; channel = channel; side = side; kind = kind; answer = answer; request = request; cause = cause; size = size; stamp = stamp })

abbrev pub case1 : Case
case1 = record { start = ready; before = []; call = c1; shows = record { size = 36; answer = 0; entry = says 10 0 1 10 0 7 0 64 100; payload = []; start = 0; table = table_of 11 open7 } }

abbrev pub case2 : Case
case2 = record { start = ready; before = c1 ∷ []; call = c2; shows = record { size = 38; answer = 0; entry = says 11 0 2 16 0 7 10 2 90; payload = 0xAA ∷ 0xBB ∷ []; start = 36; table = table_of 12 none } }

-- C2 again
abbrev pub case3 : Case
case3 = record { start = ready; before = c1 ∷ c2 ∷ []; call = c2; shows = record { size = 38; answer = 11; entry = says 12 0 2 16 11 0 0 0 90; payload = []; start = 0; table = table_of 13 none } }

-- C1 twice
abbrev pub case4 : Case
case4 = record { start = ready; before = c1 ∷ []; call = c1; shows = record { size = 36; answer = 9; entry = says 11 0 1 10 9 0 0 0 100; payload = []; start = 0; table = table_of 12 open7 } }

-- 64 bytes of data
abbrev pub case5 : Case
case5 = record { start = ready; before = c1 ∷ []; call = client 90 (completion 64 (up_from 1 64)); shows = record { size = 100; answer = 0; entry = says 11 0 2 16 0 7 10 64 90; payload = up_from 1 64; start = 36; table = table_of 12 none } }

-- 65, and the row is kept
abbrev pub case6 : Case
case6 = record { start = ready; before = c1 ∷ []; call = client 90 (completion 65 (up_from 1 65)); shows = record { size = 101; answer = 13; entry = says 11 0 2 16 13 0 0 0 90; payload = []; start = 0; table = table_of 12 open7 } }

-- C1 with a byte more
abbrev pub case7 : Case
case7 = record { start = ready; before = []; call = server 100 (transfer_in ++ (0x00 ∷ [])); shows = record { size = 37; answer = 7; entry = says 10 0 1 10 7 0 0 0 100; payload = []; start = 0; table = table_of 11 none } }

-- the RequestId's word 07000080
abbrev pub case8 : Case
case8 = record { start = ready; before = []; call = server 100 transfer_in_no_ack; shows = record { size = 36; answer = 8; entry = says 10 0 1 10 8 0 0 0 100; payload = []; start = 0; table = table_of 11 none } }

-- 11 bytes
abbrev pub case9 : Case
case9 = record { start = ready; before = []; call = server 100 (take 11 transfer_in); shows = record { size = 11; answer = 3; entry = says 10 0 1 0 3 0 0 0 100; payload = []; start = 0; table = table_of 11 none } }

-- channel 8
abbrev pub case10 : Case
case10 = record { start = ready; before = []; call = record { channel = 8; asks = judging 1 100 transfer_in }; shows = record { size = 36; answer = 2; entry = says 10 8 1 0 2 0 0 0 100; payload = []; start = 0; table = table_of 11 none } }

-- opened at 4,294,967,294, a close, and another, which leaves the table as it is
abbrev pub case11 : Case
case11 = record { start = open_of 4294967294; before = []; call = close 100; shows = record { size = 0; answer = 0; entry = says 4294967294 0 3 18 0 0 0 0 100; payload = []; start = 0; table = open_of 4294967295 } }

abbrev pub case11again : Case
case11again = record { start = open_of 4294967294; before = close 100 ∷ []; call = close 100; shows = record { size = 0; answer = 1; entry = None; payload = []; start = 0; table = open_of 4294967295 } }

-- a cancel of 9, which is not open
abbrev pub case12 : Case
case12 = record { start = ready; before = []; call = server 100 (cancel_of 9); shows = record { size = 16; answer = 0; entry = says 10 0 1 13 0 9 0 0 100; payload = []; start = 0; table = table_of 11 none } }

unfoldable pub cases : List Case
cases = case1 ∷ case2 ∷ case3 ∷ case4 ∷ case5 ∷ case6 ∷ case7 ∷ case8 ∷ case9 ∷ case10 ∷ case11 ∷ case11again ∷ case12 ∷ []

-- ---- 02 R-2: C1's request, of RequestId 7 and journal number 10, is cancelled
abbrev pub cancel7 : Call
cancel7 = server 80 (cancel_of 7)

-- its cancel names it and marks its row
abbrev pub late1 : Case
late1 = record { start = ready; before = c1 ∷ []; call = cancel7; shows = record { size = 16; answer = 0; entry = says 11 0 1 13 0 7 10 0 80; payload = []; start = 0; table = table_of 12 marked7 } }

-- a second cancel has cause 0
abbrev pub late2 : Case
late2 = record { start = ready; before = c1 ∷ cancel7 ∷ []; call = cancel7; shows = record { size = 16; answer = 0; entry = says 12 0 1 13 0 7 0 0 80; payload = []; start = 0; table = table_of 13 marked7 } }

-- its completion, C2, is judged as ever, has the same cause, and frees the row
abbrev pub late3 : Case
late3 = record { start = ready; before = c1 ∷ cancel7 ∷ []; call = c2; shows = record { size = 38; answer = 0; entry = says 12 0 2 16 0 7 10 2 90; payload = 0xAA ∷ 0xBB ∷ []; start = 36; table = table_of 13 none } }

-- with 65 bytes of data it gets 13, as C6 does, and the row is kept with its mark
abbrev pub late4 : Case
late4 = record { start = ready; before = c1 ∷ cancel7 ∷ []; call = client 90 (completion 65 (up_from 1 65)); shows = record { size = 101; answer = 13; entry = says 12 0 2 16 13 0 0 0 90; payload = []; start = 0; table = table_of 13 marked7 } }

-- until its completion its id is in use
abbrev pub late5 : Case
late5 = record { start = ready; before = c1 ∷ cancel7 ∷ []; call = c1; shows = record { size = 36; answer = 9; entry = says 12 0 1 10 9 0 0 0 100; payload = []; start = 0; table = table_of 13 marked7 } }

-- a completion behind the completion gets 11, and a cancel there has cause 0
abbrev pub late6 : Case
late6 = record { start = ready; before = c1 ∷ cancel7 ∷ c2 ∷ []; call = c2; shows = record { size = 38; answer = 11; entry = says 13 0 2 16 11 0 0 0 90; payload = []; start = 0; table = table_of 14 none } }

abbrev pub late7 : Case
late7 = record { start = ready; before = c1 ∷ cancel7 ∷ c2 ∷ []; call = cancel7; shows = record { size = 16; answer = 0; entry = says 13 0 1 13 0 7 0 0 80; payload = []; start = 0; table = table_of 14 none } }

-- a close counts the marked row and empties it
abbrev pub late8 : Case
late8 = record { start = ready; before = c1 ∷ cancel7 ∷ []; call = close 100; shows = record { size = 0; answer = 0; entry = says 12 0 3 18 0 0 0 1 100; payload = []; start = 0; table = open_of 13 } }

-- so does a retract, which leaves the channel in phase 6
abbrev pub late9 : Case
late9 = record { start = ready; before = c1 ∷ cancel7 ∷ []; call = server 100 retract; shows = record { size = 16; answer = 0; entry = says 12 0 1 14 0 0 0 1 100; payload = []; start = 0; table = table_in 6 13 none } }

-- behind the completion the id is free, and the request that takes it is not marked:
abbrev pub late10 : Case
late10 = record { start = ready; before = c1 ∷ cancel7 ∷ c2 ∷ []; call = c1; shows = record { size = 36; answer = 0; entry = says 13 0 1 10 0 7 0 64 100; payload = []; start = 0; table = table_of 14 (holding7 13 false) } }

-- its first cancel names it, and not the one before
abbrev pub late11 : Case
late11 = record { start = ready; before = c1 ∷ cancel7 ∷ c2 ∷ c1 ∷ []; call = cancel7; shows = record { size = 16; answer = 0; entry = says 14 0 1 13 0 7 13 0 80; payload = []; start = 0; table = table_of 15 (holding7 13 true) } }

unfoldable pub late_cases : List Case
late_cases = late1 ∷ late2 ∷ late3 ∷ late4 ∷ late5 ∷ late6 ∷ late7 ∷ late8 ∷ late9 ∷ late10 ∷ late11 ∷ []
