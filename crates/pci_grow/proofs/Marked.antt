-- Marks of windows, function by function.
use Rattle.std.proofs.Common.{◌≡◌, ℕ, ◌+◌, ◌<◌, ◌≤◌, inl, inr, List, length, set, get_or, Bool, true, false, ◌||◌, cond, arith, refl, sym, ◌∙◌, ap, subst, Option, None}
use Rattle.std.proofs.lemmas.Bool.{cases_eq, cases_lt}
use Rattle.std.proofs.lemmas.List.{get_or-set_same, get_or-set_other, get_or_past, length-set}
use Rattle.pci_spec.specs.Window.{IoWindow, MemoryWindow, PrefetchWindow}
use Rattle.pci_spec.specs.System.{Part, Bar, Rom, Window}
use Rattle.pci_base.specs.declared.range.Range.{Range}
use Rattle.pci_base.specs.declared.window_kind.WindowKind.{WindowKind}
use Rattle.pci_base.specs.declared.window_kind.WindowKind.TheVariants.{Io, Memory, Prefetchable}
use Rattle.pci_base.specs.declared.window_kind.ByKind.{ByKind}
use Rattle.pci_base.specs.WindowKinds.{kind_value, by_kind}
use Rattle.pci_first_fit.specs.declared.kept.Kept.{Kept}
use Rattle.pci_first_fit.specs.Kept.{kept_of, nothing_kept}
use Rattle.pci_first_fit.specs.Tables.{untold}
use Rattle.pci_grow.specs.Marks.{is_window_kept, AreKeptToo, AreLeftToldOf}

-- of the first functions an entry is made of the old one and the marks, and of the rest it is the old one
pub record AreFirstDone {E : Type 0} (none : E) (made : E → Kept → E → Type 0) (n : ℕ) (old : List E) (marks : List Kept) (new : List E) : Type 0 where
  pub count : length new ≡ length old
  pub done : (k : ℕ) → k < n → made (get_or old k none) (get_or marks k nothing_kept) (get_or new k none)
  pub rest : (k : ℕ) → n ≤ k → get_or new k none ≡ get_or old k none

pub none_done : {E : Type 0} (none : E) (made : E → Kept → E → Type 0) (old : List E) (marks : List Kept) → AreFirstDone none made 0 old marks old
none_done none made old marks = record {
  count = refl;
  done = λ k less. absurd (let no : ⊥ = omega (arith, less) in no);
  rest = λ k from. refl;
}

pub one_done : {E : Type 0} (none : E) (made : E → Kept → E → Type 0) (n : ℕ) (old : List E) (marks : List Kept) (now : List E) (entry : E) → n < length old
    → AreFirstDone none made n old marks now → made (get_or now n none) (get_or marks n nothing_kept) entry → AreFirstDone none made (n + 1) old marks (set now n entry)
one_done none made n old marks now entry low was is = record {
  count = length-set now n entry ∙ was.count;
  done = λ k less. elim (cases_eq k n) [
    | inl same ↦ rw (same, get_or-set_same now n entry none (let size = was.count in omega (arith, low, size))) (subst (λ e. made e (get_or marks n nothing_kept) entry) (was.rest n (omega arith)) is)
    | inr differ ↦ rw (get_or-set_other now n k entry none differ) (was.done k (omega (arith, less, differ)))
  ];
  rest = λ k from. get_or-set_other now n k entry none (λ at. let no : ⊥ = omega (arith, at, from) in no) ∙ was.rest k (omega (arith, from));
}

-- ---- what the windows of a function are kept by, and what is told of them

abbrev pub IsKeptToo : Kept → Kept → Kept → Type 0
IsKeptToo old mark new = (part : Part) → kept_of new part ≡ (kept_of old part || is_window_kept mark part)

abbrev pub IsLeftTold : ByKind (Option Range) → Kept → ByKind (Option Range) → Type 0
IsLeftTold old mark new =
    (class : WindowKind) → by_kind new class ≡ cond (kept_of mark (Window (kind_value class))) (by_kind old class) None

or_false : (b : Bool) → b ≡ (b || false)
or_false true = refl
or_false false = refl

nothing_more : (part : Part) → kept_of nothing_kept part ≡ (kept_of nothing_kept part || is_window_kept nothing_kept part)
nothing_more (Bar n) = or_false (kept_of nothing_kept (Bar n))
nothing_more Rom = refl
nothing_more (Window IoWindow) = refl
nothing_more (Window MemoryWindow) = refl
nothing_more (Window PrefetchWindow) = refl

none_of : (class : WindowKind) → by_kind untold class ≡ None
none_of Io = refl
none_of Memory = refl
none_of Prefetchable = refl

by_none : {X : Type 0} (b : Bool) (x : Option X) → x ≡ None → x ≡ cond b x None
by_none true x none = refl
by_none false x none = none

pub all_kept : (n : ℕ) (old marks new : List Kept) → length old ≤ n → length marks ≡ length old → AreFirstDone nothing_kept IsKeptToo n old marks new → AreKeptToo old marks new
all_kept n old marks new past size are = record {
  count = are.count;
  each = λ k part. elim (cases_lt k n) [
    | inl less ↦ are.done k less part
    | inr from ↦ (
        let old_none = get_or_past old k nothing_kept (omega (arith, from, past)) in
        let mark_none = get_or_past marks k nothing_kept (omega (arith, from, past, size)) in
        ap (λ e. kept_of e part) (are.rest k from ∙ old_none)
        ∙ nothing_more part
        ∙ ap (λ e. kept_of e part || is_window_kept nothing_kept part) (sym old_none)
        ∙ ap (λ m. kept_of (get_or old k nothing_kept) part || is_window_kept m part) (sym mark_none))
  ];
}

-- a window's mark is found by its kind, too
pub mark_of : (t : Kept) (class : WindowKind) → by_kind t.windows class ≡ kept_of t (Window (kind_value class))
mark_of t Io = refl
mark_of t Memory = refl
mark_of t Prefetchable = refl

pub all_left : (n : ℕ) (old : List (ByKind (Option Range))) (marks : List Kept) (new : List (ByKind (Option Range))) → length old ≤ n → length marks ≡ length old → AreFirstDone untold IsLeftTold n old marks new → AreLeftToldOf marks old new
all_left n old marks new past size are = record {
  count = are.count;
  each = λ k class. elim (cases_lt k n) [
    | inl less ↦ are.done k less class
    | inr from ↦ ap (λ e. by_kind e class) (are.rest k from) ∙ nothing k class from
  ];
}
  where
    nothing : (k : ℕ) (class : WindowKind) → n ≤ k → by_kind (get_or old k untold) class ≡ cond (kept_of (get_or marks k nothing_kept) (Window (kind_value class))) (by_kind (get_or old k untold) class) None
    nothing k class from = by_none (kept_of (get_or marks k nothing_kept) (Window (kind_value class))) (by_kind (get_or old k untold) class) (ap (λ e. by_kind e class) (get_or_past old k untold (omega (arith, from, past))) ∙ none_of class)
