-- The fields of 000 2.2.7.2 and 2.2.7.3, kinds 16 and 17: n is CbTsUrbResult.
use Rattle.std.specs.Prelude.{ℕ, ◌+◌, ◌-◌, List}
use Rattle.words.specs.Words.{word_at}
use Rattle.header.specs.Ids.{request_in}
use Rattle.writer.specs.declared.urb_completion.UrbResultFields.{UrbResultFields}
use Rattle.writer.specs.declared.urb_completion.UrbCompletionFields.{UrbCompletionFields}
use Rattle.writer.specs.declared.urb_completion.UrbCompletionNoDataFields.{UrbCompletionNoDataFields}

-- what is left of a result behind its header of 8 bytes
abbrev pub behind_header : ℕ → ℕ
behind_header n = n - 8

abbrev pub result_in : List ℕ → ℕ → UrbResultFields
result_in m n = record { request = request_in (word_at m 12); status = word_at m 24; rest = record { start = 28; size = behind_header n }; result = word_at m (20 + n) }

unfoldable pub urb_completion_in : List ℕ → UrbCompletionFields
urb_completion_in m = record { urb = result_in m (word_at m 16); output = record { start = 20 + word_at m 16 + 8; size = word_at m (20 + word_at m 16 + 4) } }

unfoldable pub no_data_in : List ℕ → UrbCompletionNoDataFields
no_data_in m = record { urb = result_in m (word_at m 16); size = word_at m (20 + word_at m 16 + 4) }
