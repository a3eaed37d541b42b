use Rattle.std.proofs.Common.{subst}
use Rattle.ff_lines.specs.DeviceState.{IsDevice}
use Rattle.ff_plain.specs.PlainFields.{view_of}
use Rattle.ff_plain.specs.Plain.{PlainView, state_of}
use Rattle.ff_plain.proofs.PlainDevice.{plain_device}
use Rattle.ff_plain.proofs.plain.PlainLineDevice.resident.Goals as goal

pub returns-clause-known : goal.returns-clause-known
returns-clause-known c =
    subst (λ (plain : PlainView). IsDevice (state_of plain)) c.self.view_is (plain_device (view_of c.self.inside) c.self.invariant)
