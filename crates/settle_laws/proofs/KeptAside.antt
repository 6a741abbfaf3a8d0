-- What settling keeps of each function.
use Rattle.std.proofs.Common.{◌≡◌, ℕ, [], ◌∷◌, refl, Bool, true, false, arith, ◌∙◌, ap, map}
use Rattle.std.specs.List.{AllZip, Contains}
use Rattle.pci_spec.specs.Header.{command}
use Rattle.pci_spec.specs.System.{System, Function, Io, Memory}
use Rattle.pci_spec.specs.Machine.{without_low}
use Rattle.pci_spec.proofs.Members.{in_head, in_tail}
use Rattle.plan_spec.proofs.Planning.CommandFits.{command_by}
use Rattle.settle_spec.specs.Keeping.Registers.{settled_function, is_enabled_in}
use Rattle.settle_laws.specs.WriteLaws.{IsKeptAside, SettledKeepsTheRest}
use Rattle.settle_laws.proofs.Keeping.SettledMoved.{image_now, command_now, byte_now}

pub each_by : (R : Function → Function → Type 0) (g : Function → Function) (t : System) → ((f : Function) → Contains t f → R f (g f)) → AllZip R t (map g t)
each_by R g [] each = tt
each_by R g (f ∷ t) each = (each f (in_head f t), each_by R g t (λ h has. each h (in_tail f t h has)))

pub enables_alone : (old : ℕ) (io memory : Bool) → without_low 4 (command_by old io memory) ≡ without_low 4 old
enables_alone old true true = omega arith
enables_alone old true false = omega arith
enables_alone old false true = omega arith
enables_alone old false false = omega arith

pub kept_aside : SettledKeepsTheRest
kept_aside q s k system profile = each_by IsKeptAside (settled_function q s k) s (λ f listed. record {
  slot = refl;
  probe = refl;
  image = image_now q s k system profile f listed;
  rest = λ place apart out. byte_now q s k system profile f listed place apart out;
  enables = ap (without_low 4) (command_now q s k system profile f listed) ∙ enables_alone (command f.image) (is_enabled_in q s k Io f) (is_enabled_in q s k Memory f);
})
