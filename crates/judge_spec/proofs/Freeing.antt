-- The runs of a place are just what is free there.
use Rattle.std.proofs.Common.{◌≡◌, ℕ, List, [], ◌∷◌, get_or, refl, subst, sym, arith}
use Rattle.std.specs.Prelude.{◌↔◌}
use Rattle.std.specs.List.{Any}
use Rattle.std.proofs.lemmas.Bool.{false≢true}
use Rattle.pci_spec.specs.System.{System, Space, Io, Memory}
use Rattle.pci_spec.specs.Decoded.{Range, InRange}
use Rattle.pci_spec.specs.Why.{Region, IsRun, AreRuns}
use Rattle.judge_spec.specs.Given.{Given, nothing_given}
use Rattle.judge_spec.specs.ToldClaims.{Told}
use Rattle.judge_spec.specs.Lines.{OnRoot, Inside, Lines, runs_at, AreLinesAt, IsFreeIn, IsFreeOn}

runs_have : (P : ℕ → Type 0) (rs : List Range) (a : ℕ) → AreRuns P rs → Any (λ r. InRange r a) rs ↔ P a
runs_have P rs a are = (
  λ h. (let run : IsRun P (get_or rs h.0 h.1) = are.each h.0 h.1 h.2 in run.each a (subst (λ (r : Range). InRange r a) (sym h.3) h.4)),
  λ p. are.complete a p,
)

module _ (told : Told) (given : Given) (roots : List ℕ) (s : System) (space : Space) (lines : Lines) (a : ℕ) where
  pub run_is_free : (w : Region) → AreLinesAt told given roots s space (Inside w) lines → Any (λ r. InRange r a) (runs_at lines) ↔ IsFreeIn told given s w a
  run_is_free w are = runs_have (IsFreeIn told given s w) (runs_at lines) a are.free

  pub run_on_root : (bus : ℕ) → AreLinesAt told given roots s space (OnRoot bus) lines → Any (λ r. InRange r a) (runs_at lines) ↔ IsFreeOn told given s bus space a
  run_on_root bus are = runs_have (IsFreeOn told given s bus space) (runs_at lines) a are.free

-- ---- with nothing given

none_free : (told : Told) (s : System) (bus : ℕ) (space : Space) (a : ℕ) → IsFreeOn told nothing_given s bus space a → ⊥
none_free told s bus Io a free = false≢true free.said
none_free told s bus Memory a free = false≢true free.said

pub no_run : (P : ℕ → Type 0) (rs : List Range) → ((a : ℕ) → P a → ⊥) → AreRuns P rs → rs ≡ []
no_run P [] none are = refl
no_run P (r ∷ rs) none are =
    let first = are.each 0 r (omega arith) in absurd (none r.first (first.each r.first (omega arith, first.some)))

pub no_run_on_root : (told : Told) (roots : List ℕ) (s : System) (space : Space) (bus : ℕ) (lines : Lines) → AreLinesAt told nothing_given roots s space (OnRoot bus) lines → runs_at lines ≡ []
no_run_on_root told roots s space bus lines are = no_run (IsFreeOn told nothing_given s bus space) (runs_at lines) (none_free told s bus space) are.free
