-- The fields of ADD_DEVICE (000 2.2.4.2), kind 6: a text starts where the one before it ends.
use Rattle.std.specs.Prelude.{ℕ, ◌+◌, ◌*◌, List}
use Rattle.words.specs.Words.{word_at}
use Rattle.words.specs.declared.layout.Part.{Part}
use Rattle.device.specs.declared.device_capabilities.DeviceCapabilities.{DeviceCapabilities}
use Rattle.writer.specs.declared.add_device.AddDeviceFields.{AddDeviceFields}

-- the units of the text whose count stands at a place
abbrev pub units_in : List ℕ → ℕ → Part
units_in m at = record { start = at + 4; size = 2 * word_at m at }

abbrev pub behind : Part → ℕ
behind p = p.start + p.size

abbrev pub capabilities_in : List ℕ → ℕ → DeviceCapabilities
capabilities_in m at = record { size = word_at m at; bus = word_at m (at + 4); usbdi = word_at m (at + 8); usb = word_at m (at + 12); host = word_at m (at + 16); speed = word_at m (at + 20); jitter = word_at m (at + 24) }

abbrev pub add_device_with : List ℕ → Part → Part → Part → Part → AddDeviceFields
add_device_with m instance hardware compatible container =
    record { count = word_at m 12; device = word_at m 16; instance = instance; hardware = hardware; compatible = compatible; container = container; capabilities = capabilities_in m (behind container) }

abbrev pub hardware_in : List ℕ → Part
hardware_in m = units_in m (behind (units_in m 20))

abbrev pub compatible_in : List ℕ → Part
compatible_in m = units_in m (behind (hardware_in m))

abbrev pub container_in : List ℕ → Part
container_in m = units_in m (behind (compatible_in m))

unfoldable pub add_device_in : List ℕ → AddDeviceFields
add_device_in m = add_device_with m (units_in m 20) (hardware_in m) (compatible_in m) (container_in m)
