-- An access that passes a bridge by its windows: in I/O, in prefetchable memory, or in memory.
use Rattle.std.proofs.Common.{◌≡◌, ◌&&◌, ℕ, inl, inr, Bool, true, false, refl, ap, subst}
use Rattle.std.proofs.lemmas.Bool.{and_parts, and_from, both_ways, or_cases, or_left, or_right}
use Rattle.pci_spec.specs.Window.{WindowKind, IoWindow, MemoryWindow, PrefetchWindow}
use Rattle.pci_spec.specs.System.{Function, Space, Io, Memory, window_space, window_claims, passes}
use Rattle.plan_spec.specs.Plan.{same_class}

-- a window of this class passes what may use it
pub passes_by : (c : WindowKind) (space : Space) (prefetchable : Bool) (a : ℕ) (b : Function) → window_space c ≡ space → (c ≡ PrefetchWindow → prefetchable ≡ true) → window_claims b c a ≡ true → passes space prefetchable a b ≡ true
passes_by c space prefetchable a b at may h = subst (λ sp. passes sp prefetchable a b ≡ true) at (by c may h)
  where
    by : (c : WindowKind) → (c ≡ PrefetchWindow → prefetchable ≡ true) → window_claims b c a ≡ true → passes (window_space c) prefetchable a b ≡ true
    by IoWindow may h = h
    by MemoryWindow may h = or_left (window_claims b MemoryWindow a) (prefetchable && window_claims b PrefetchWindow a) h
    by PrefetchWindow may h = or_right (window_claims b MemoryWindow a) (prefetchable && window_claims b PrefetchWindow a) (and_from prefetchable (window_claims b PrefetchWindow a) (may refl) h)

pub record IsPassedBy (space : Space) (prefetchable : Bool) (a : ℕ) (b : Function) : Type 0 where
  pub class : WindowKind
  pub at : window_space class ≡ space
  pub may : class ≡ PrefetchWindow → prefetchable ≡ true
  pub claims : window_claims b class a ≡ true

pub no_prefetch : (c : WindowKind) → same_class PrefetchWindow c ≡ false → {P : Type 0} → c ≡ PrefetchWindow → P
no_prefetch c differ e = absurd (both_ways (same_class PrefetchWindow c) differ (ap (same_class PrefetchWindow) e))

pub passed_by : (space : Space) (prefetchable : Bool) (a : ℕ) (b : Function) → passes space prefetchable a b ≡ true → IsPassedBy space prefetchable a b
passed_by Io prefetchable a b h = record { class = IoWindow; at = refl; may = λ e. no_prefetch IoWindow refl e; claims = h }
passed_by Memory prefetchable a b h = elim (or_cases (window_claims b MemoryWindow a) (prefetchable && window_claims b PrefetchWindow a) h) [
  | inl plain ↦ record { class = MemoryWindow; at = refl; may = λ e. no_prefetch MemoryWindow refl e; claims = plain }
  | inr other ↦ (let parts = and_parts prefetchable (window_claims b PrefetchWindow a) other in record { class = PrefetchWindow; at = refl; may = λ e. parts.0; claims = parts.1 })
]
