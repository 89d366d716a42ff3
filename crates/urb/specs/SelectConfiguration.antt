-- TS_URB_SELECT_CONFIGURATION (000 2.2.9.2). u is the message up to the end of its TsUrb.
use Rattle.std.specs.Prelude.{ℕ, ◌+◌, ◌-◌, List, cond, length, eqb, Result, Ok, Err}
use Rattle.words.specs.Words.{byte_at, word_at}
use Rattle.words.specs.Layout.{left, field}
use Rattle.urb.specs.Interfaces.{interfaces_of}
use Rattle.urb.specs.declared.ts_urb.Urb.TheVariants as urb
use Rattle.words.specs.declared.layout.Fault.{Fault}
use Rattle.urb.specs.declared.select_configuration.Descriptor.{Descriptor}
use Rattle.urb.specs.declared.ts_urb.Urb.{Urb}

-- behind the interfaces a descriptor of at least 9 bytes, which takes all that is left; if the flag is 0 none is read, and the list's end is where the TsUrb has to end (`filled`, in the
-- two transfers)
unfoldable pub descriptor_of : List ℕ → ℕ → ℕ → Result (Descriptor × ℕ) Fault
descriptor_of u flag at =
    cond (eqb flag 0)
    (Ok ((record { part = record { start = at; size = 0 }; first = 0; second = 0 }), at))
    (field u at 9
    (Ok ((record { part = record { start = at; size = left u at }; first = byte_at u at; second = byte_at u (at + 1) }), (length u))))

abbrev pub configuration_with : List ℕ → ℕ → ℕ → ℕ → Result (Descriptor × ℕ) Fault → Result (Urb × ℕ) Fault
configuration_with u count end pipes (Ok (d, last)) = Ok ((urb.SelectConfiguration (record { flag = byte_at u 24; count = count; interfaces = record { start = 32; size = end - 32 }; pipes = pipes; descriptor = d })), last)
configuration_with u count end pipes (Err fault) = Err fault

unfoldable pub configuration_of : List ℕ → ℕ → ℕ → ℕ → Result (Urb × ℕ) Fault
configuration_of u count end pipes = configuration_with u count end pipes (descriptor_of u (byte_at u 24) end)

abbrev pub configuration_from : List ℕ → Result (ℕ × ℕ) Fault → Result (Urb × ℕ) Fault
configuration_from u (Ok (end, pipes)) = configuration_of u (word_at u 28) end pipes
configuration_from u (Err fault) = Err fault

unfoldable pub select_configuration_of : List ℕ → Result (Urb × ℕ) Fault
select_configuration_of u =
    field u 24 1
    (field u 25 3
    (field u 28 4
    (configuration_from u (interfaces_of u (word_at u 28) 0 32))))
