pub mod DeviceCapabilities
