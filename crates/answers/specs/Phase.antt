-- 01 "Header and kinds": the phase before and after each kind.
use Rattle.answers.specs.declared.kind.Kind.{Kind}
use Rattle.answers.specs.declared.kind.Kind.TheVariants.{CapabilityRequest, CapabilityResponse, ChannelCreatedByServer, ChannelCreatedByClient, AddVirtualChannel, AddDevice, CancelRequest, RegisterRequestCallback, IoControl, InternalIoControl, TransferInRequest, TransferOutRequest, RetractDevice, IoControlCompletion, UrbCompletion, UrbCompletionNoData}
use Rattle.answers.specs.declared.phase.Phases.{Phases}

abbrev pub phases_of : Kind → Phases
phases_of CapabilityRequest = record { before = 0; after = 1 }
phases_of CapabilityResponse = record { before = 1; after = 2 }
phases_of ChannelCreatedByServer = record { before = 2; after = 3 }
phases_of ChannelCreatedByClient = record { before = 3; after = 4 }
phases_of AddVirtualChannel = record { before = 4; after = 4 }
phases_of AddDevice = record { before = 4; after = 5 }
phases_of CancelRequest = record { before = 5; after = 5 }
phases_of RegisterRequestCallback = record { before = 5; after = 5 }
phases_of IoControl = record { before = 5; after = 5 }
phases_of InternalIoControl = record { before = 5; after = 5 }
phases_of TransferInRequest = record { before = 5; after = 5 }
phases_of TransferOutRequest = record { before = 5; after = 5 }
phases_of RetractDevice = record { before = 5; after = 6 }
phases_of IoControlCompletion = record { before = 5; after = 5 }
phases_of UrbCompletion = record { before = 5; after = 5 }
phases_of UrbCompletionNoData = record { before = 5; after = 5 }
