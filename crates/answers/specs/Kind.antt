-- 01's number of each kind.
use Rattle.std.specs.Prelude.{ℕ, List, [], ◌∷◌, Result, eqb, find, ok_or}
use Rattle.answers.specs.declared.kind.Kind.{Kind}
use Rattle.answers.specs.declared.kind.NoKind.{NoKind}
use Rattle.answers.specs.declared.kind.Kind.TheVariants.{CapabilityRequest, CapabilityResponse, ChannelCreatedByServer, ChannelCreatedByClient, AddVirtualChannel, AddDevice, CancelRequest, RegisterRequestCallback, IoControl, InternalIoControl, TransferInRequest, TransferOutRequest, RetractDevice, IoControlCompletion, UrbCompletion, UrbCompletionNoData}

abbrev pub kind_number : Kind → ℕ
kind_number CapabilityRequest = 1
kind_number CapabilityResponse = 2
kind_number ChannelCreatedByServer = 3
kind_number ChannelCreatedByClient = 4
kind_number AddVirtualChannel = 5
kind_number AddDevice = 6
kind_number CancelRequest = 13
kind_number RegisterRequestCallback = 7
kind_number IoControl = 8
kind_number InternalIoControl = 9
kind_number TransferInRequest = 10
kind_number TransferOutRequest = 11
kind_number RetractDevice = 14
kind_number IoControlCompletion = 15
kind_number UrbCompletion = 16
kind_number UrbCompletionNoData = 17

-- the kinds by their numbers
abbrev pub all_kinds : List Kind
all_kinds =
    CapabilityRequest ∷ CapabilityResponse ∷ ChannelCreatedByServer ∷ ChannelCreatedByClient ∷
    AddVirtualChannel ∷ AddDevice ∷ RegisterRequestCallback ∷ IoControl ∷
    InternalIoControl ∷ TransferInRequest ∷ TransferOutRequest ∷ CancelRequest ∷
    RetractDevice ∷ IoControlCompletion ∷ UrbCompletion ∷ UrbCompletionNoData ∷ []

-- the kind that has a number, if one has it
abbrev pub kind_at : ℕ → Result Kind NoKind
kind_at n = ok_or (find (λ kind. eqb (kind_number kind) n) all_kinds) (record {})
