-- USB_DEVICE_CAPABILITIES (000 2.2.11).
use Rattle.std.specs.Prelude.{ℕ, ◌+◌, ◌*◌, ◌/◌, List, [], ◌∷◌, Bool, cond, not, ◌&&◌, ◌||◌, eqb, ltb, leb, get_or, Result, Ok, Err}
use Rattle.std.specs.List.{list_all}
use Rattle.words.specs.Words.{word_at}
use Rattle.words.specs.Layout.{left}
use Rattle.device.specs.declared.device_capabilities.DeviceCapabilities.{DeviceCapabilities}
use Rattle.device.specs.declared.device_capabilities.Row.{Row}
use Rattle.device.specs.declared.device_capabilities.Field.{Field}
use Rattle.device.specs.declared.device_capabilities.Field.TheVariants.{CbSize, UsbBusInterfaceVersion, USBDI_Version, Supported_USB_Version, HcdCapabilities, DeviceIsHighSpeed, NoAckIsochWriteJitterBufferSizeInMs}
use Rattle.device.specs.declared.device_capabilities.Values.{Values}
use Rattle.device.specs.declared.device_capabilities.Values.TheVariants.{One, Two, Three, OneOr}
use Rattle.words.specs.declared.layout.Fault.TheVariants.{RanOut}
use Rattle.words.specs.declared.layout.Fault.{Fault}

-- seven fields of four bytes: of n bytes that are too few, the first field that they do not hold starts at n / 4 * 4
unfoldable pub capabilities_of : List ℕ → ℕ → Result (DeviceCapabilities × ℕ) Fault
capabilities_of m at =
    cond (ltb (left m at) 28) (Err (RanOut (at + left m at / 4 * 4)))
    (Ok ((record { size = word_at m at; bus = word_at m (at + 4); usbdi = word_at m (at + 8); usb = word_at m (at + 12); host = word_at m (at + 16); speed = word_at m (at + 20); jitter = word_at m (at + 24) }), (at + 28)))

-- a row: where the field starts, its name in 000, the values that it may have
abbrev pub row : ℕ → Field → Values → Row
row offset field values = record { 0 = offset; 1 = field; 2 = values }

-- the fields in their order
unfoldable pub capability_rows : List Row
capability_rows =
    row 0 CbSize (One 28) ∷
    row 4 UsbBusInterfaceVersion (Three 0 1 2) ∷
    row 8 USBDI_Version (Two 0x500 0x600) ∷
    row 12 Supported_USB_Version (Three 0x100 0x110 0x200) ∷
    row 16 HcdCapabilities (One 0) ∷
    row 20 DeviceIsHighSpeed (Two 0 1) ∷
    row 24 NoAckIsochWriteJitterBufferSizeInMs (OneOr 0 10 512) ∷ []

-- the one rule that joins two fields: on bus version 0 the speed is 0
abbrev pub speed_suits_bus : ℕ → ℕ → Bool
speed_suits_bus bus speed = not (eqb bus 0) || eqb speed 0

-- one value, one of two, one of three; or one and a range, with both its ends
abbrev pub among : Values → ℕ → Bool
among (One a) v = eqb v a
among (Two a b) v = eqb v a || eqb v b
among (Three a b c) v = eqb v a || (eqb v b || eqb v c)
among (OneOr a low high) v = eqb v a || (leb low v && leb v high)

-- the field that has this name in 000
abbrev pub value_of : DeviceCapabilities → Field → ℕ
value_of c CbSize = c.size
value_of c UsbBusInterfaceVersion = c.bus
value_of c USBDI_Version = c.usbdi
value_of c Supported_USB_Version = c.usb
value_of c HcdCapabilities = c.host
value_of c DeviceIsHighSpeed = c.speed
value_of c NoAckIsochWriteJitterBufferSizeInMs = c.jitter

-- the field that a row names
abbrev pub field_by : DeviceCapabilities → Row → ℕ
field_by c r = value_of c r.1

-- the word at a row's offset, of bytes from a place on
abbrev pub word_by : List ℕ → ℕ → Row → ℕ
word_by m at r = word_at m (at + r.0)

-- what v gives for each row is among that row's values
abbrev pub rows_allow : (Row → ℕ) → List Row → Bool
rows_allow v rs = list_all (λ r. among r.2 (v r)) rs

unfoldable pub capabilities_allowed : DeviceCapabilities → Bool
capabilities_allowed c = rows_allow (field_by c) capability_rows && speed_suits_bus c.bus c.speed

-- what an array of rows is taken to hold past its end
abbrev pub no_row : Row
no_row = row 0 CbSize (One 0)

-- where the field of row k starts
abbrev pub offset_at : ℕ → ℕ
offset_at k = (get_or capability_rows k no_row).0
