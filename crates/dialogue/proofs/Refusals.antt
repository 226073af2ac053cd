-- A line is read as one command, or refused in one way, only.
use Rattle.std.proofs.Common.{◌≡◌, ℕ, List, Ok, Result, sym, ap, ◌∙◌, arith}
use Rattle.faults.specs.declared.Fault.{Fault}
use Rattle.faults.specs.declared.Fault.TheVariants.{NotACommand}
use Rattle.commands.specs.declared.command.Command.{Command}
use Rattle.commands.specs.Grammar.{IsRefused}

pub ok_same : {c d : Command} → ◌≡◌ {A = Result Command Fault} (Ok c) (Ok d) → c ≡ d
ok_same e = cc

pub one_refusal : (bs : List ℕ) (f g : Fault) → IsRefused bs f → IsRefused bs g → f ≡ g
one_refusal bs f g r s =
    let same : r.place ≡ s.place =
    omega (arith, r.furthest s.place s.within s.begins, s.furthest r.place r.within r.begins) in
    r.fault ∙ ap NotACommand same ∙ sym s.fault
