-- `requests::row::has` meets its contract: a row that is open holds the id of its request.
use Rattle.std.proofs.Common.{◌≡◌, ◌⊎◌, inl, inr}
use Rattle.header.specs.declared.ids.RequestId.{RequestId}
use Rattle.channel.specs.declared.row.Open.{Open}
use Rattle.channel.specs.declared.row.Sort.{Sort}
use Rattle.channel.specs.declared.row.Sort.TheVariants.{Io, In, Out}
use Rattle.requests.specs.Held.{names, holds_by}
use Rattle.requests.proofs.row.has.Goals as goal

held : (id : RequestId) (s : Sort) (o : Open) → (s ≡ Io o) ⊎ ((s ≡ In o) ⊎ (s ≡ Out o)) → names id o ≡ holds_by id s
held id s o (inl e) = rw e
held id s o (inr (inl e)) = rw e
held id s o (inr (inr e)) = rw e

pub returns-in-Io : goal.returns-in-Io
returns-in-Io c = rw c.eq.ensures (held c.args.id c.args.r.sort _ c.in-Io.is)
