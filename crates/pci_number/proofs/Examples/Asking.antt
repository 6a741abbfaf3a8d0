-- An access that a log has is not asked for again.
use Rattle.std.proofs.Common.{◌≡◌, ◌==◌, ◌&&◌, ◌||◌, ℕ, Bool, true, false, not, [], ◌∷◌, refl, sym, ap, ◌∙◌}
use Rattle.std.specs.List.{slice_get}
use Rattle.std.proofs.lemmas.Bool.{and_from, eq-eqb}
use Rattle.pci_number.specs.Logs.{TrueLog, is_new, is_same}
use Rattle.pci_number.specs.Numberings.{IsSteppedTo}
use Rattle.pci_number.specs.declared.access.Access.{Access}
use Rattle.pci_number.specs.declared.access.Step.TheVariants.{Next}
use Rattle.std.specs.Prelude.{Some}

either : (b c : Bool) → c ≡ true → (b || c) ≡ true
either true c e = refl
either false c e = e

same_as_itself : (a : Access) → is_same a a ≡ true
same_as_itself a =
    and_from (a.bus == a.bus) (a.place == a.place && (a.offset == a.offset && (a.kind == a.kind && (a.kind == 0 || a.value == a.value)))) (eq-eqb a.bus a.bus refl)
    (and_from (a.place == a.place) (a.offset == a.offset && (a.kind == a.kind && (a.kind == 0 || a.value == a.value))) (eq-eqb a.place a.place refl)
    (and_from (a.offset == a.offset) (a.kind == a.kind && (a.kind == 0 || a.value == a.value)) (eq-eqb a.offset a.offset refl)
    (and_from (a.kind == a.kind) (a.kind == 0 || a.value == a.value) (eq-eqb a.kind a.kind refl)
    (either (a.kind == 0) (a.value == a.value) (eq-eqb a.value a.value refl)))))

-- whoever made the access and appended it is never told the same with none of the log used
pub not_again : (world : TrueLog) (root last spare : ℕ) (a : Access) → world.log ≡ a ∷ []
    → IsSteppedTo world root last spare record { used = 0; step = Next a } → ⊥
not_again world root last spare a made stepped =
    let new : not (is_same a a) ≡ true = sym (ap (λ log. is_new (slice_get log 0) (Some a)) made) ∙ stepped.new in
    let old : not (is_same a a) ≡ false = ap not (same_as_itself a) in
    let no : ⊥ = cc in no
