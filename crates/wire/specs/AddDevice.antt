-- ADD_DEVICE (000 2.2.4.2), kind 6.
use Rattle.std.specs.Prelude.{ℕ, List, Bool, ◌&&◌, eqb, Result, Ok, Err}
use Rattle.words.specs.Words.{word_at}
use Rattle.header.specs.Ids.{assignable, interface_in, mask_in}
use Rattle.words.specs.Layout.{field, ended}
use Rattle.texts.specs.Text.{text_of, text_allowed, list_allowed}
use Rattle.device.specs.DeviceCapabilities.{capabilities_of, capabilities_allowed}
use Rattle.texts.specs.declared.text.Text.{Text}
use Rattle.wire.specs.declared.add_device.TextPair.{TextPair}
use Rattle.wire.specs.declared.add_device.AddDevice.{AddDevice}
use Rattle.words.specs.declared.layout.Fault.{Fault}
use Rattle.device.specs.declared.device_capabilities.DeviceCapabilities.{DeviceCapabilities}

-- two texts, one behind the other
abbrev pub pair_with : Text → Result (Text × ℕ) Fault → Result (TextPair × ℕ) Fault
pair_with first (Ok (second, end)) = Ok ((record { first = first; second = second }), end)
pair_with first (Err fault) = Err fault

abbrev pub pair_from : List ℕ → Result (Text × ℕ) Fault → Result (TextPair × ℕ) Fault
pair_from m (Ok (first, middle)) = pair_with first (text_of m middle)
pair_from m (Err fault) = Err fault

unfoldable pub pair_of : List ℕ → ℕ → Result (TextPair × ℕ) Fault
pair_of m at = pair_from m (text_of m at)

-- the device, by its texts and what its capabilities read as
abbrev pub device_with : List ℕ → TextPair → TextPair → Result (DeviceCapabilities × ℕ) Fault → Result AddDevice Fault
device_with m names classes (Ok (c, end)) =
    ended m end
    (Ok (record { count = word_at m 12; device = interface_in (word_at m 16); top = mask_in (word_at m 16); instance = names.first; hardware = names.second; compatible = classes.first; container = classes.second; capabilities = c }))
device_with m names classes (Err fault) = Err fault

unfoldable pub device_of : List ℕ → TextPair → TextPair → ℕ → Result AddDevice Fault
device_of m names classes at = device_with m names classes (capabilities_of m at)

abbrev pub classes_from : List ℕ → TextPair → Result (TextPair × ℕ) Fault → Result AddDevice Fault
classes_from m names (Ok (classes, end)) = device_of m names classes end
classes_from m names (Err fault) = Err fault

abbrev pub names_from : List ℕ → Result (TextPair × ℕ) Fault → Result AddDevice Fault
names_from m (Ok (names, middle)) = classes_from m names (pair_of m middle)
names_from m (Err fault) = Err fault

-- NumUsbDevice, UsbDevice, instance id, hardware ids, compatible ids, container id, 28 bytes of capabilities
unfoldable pub add_device_of : List ℕ → Result AddDevice Fault
add_device_of m = field m 12 4 (field m 16 4 (names_from m (pair_of m 20)))

abbrev pub text_pair_allowed : Text → Text → Bool
text_pair_allowed single list = text_allowed single && list_allowed list

unfoldable pub add_device_allowed : AddDevice → Bool
add_device_allowed b =
    eqb b.count 1 &&
    (assignable b.device &&
    (text_pair_allowed b.instance b.hardware &&
    (text_pair_allowed b.container b.compatible &&
    capabilities_allowed b.capabilities)))
