-- What a theorem says of a message: an interface that it would have the channel learn is one that may be given (`assignable`).
use Rattle.std.specs.Prelude.{◌≡◌, true, Option, Some, None, Result, Ok, Err}
use Rattle.header.specs.Ids.{assignable}
use Rattle.wire.specs.declared.message.Asked.TheVariants.{Step, Device, Callback, IoControl, TransferIn, TransferOut, Cancel, Retract, IoCompletion, UrbCompletion, UrbCompletionNoData}
use Rattle.header.specs.declared.ids.InterfaceId.{InterfaceId}
use Rattle.wire.specs.declared.message.Asked.{Asked}
use Rattle.wire.specs.declared.message.Unfit.{Unfit}
use Rattle.wire.specs.declared.message.Unfit.TheVariants as unfit

abbrev pub Given : Option InterfaceId → Type 0
Given None = Unit {0}
Given (Some id) = assignable id ≡ true

abbrev pub Assigned : Result Asked Unfit → Type 0
Assigned (Err (unfit.Sizes fault)) = Unit {0}
Assigned (Err unfit.Value) = Unit {0}
Assigned (Ok Step) = Unit {0}
Assigned (Ok (Device id ms)) = Given (Some id)
Assigned (Ok (Callback known)) = Given known
Assigned (Ok (IoControl r)) = Unit {0}
Assigned (Ok (TransferIn r)) = Unit {0}
Assigned (Ok (TransferOut r)) = Unit {0}
Assigned (Ok (Cancel id)) = Unit {0}
Assigned (Ok Retract) = Unit {0}
Assigned (Ok (IoCompletion c)) = Unit {0}
Assigned (Ok (UrbCompletion c)) = Unit {0}
Assigned (Ok (UrbCompletionNoData c)) = Unit {0}
