-- Told ranges that have to be sent and reached, one after another.
use Rattle.std.proofs.Common.{◌≡◌, ℕ, ◌+◌, ◌<◌, ◌≤◌, inl, inr, Bool, true, false, not, ◌&&◌, List, [], ◌∷◌, ◌++◌, length, get_or, refl, sym, ◌∙◌, ap, subst, arith, Some}
use Rattle.std.specs.List.{slice_get}
use Rattle.std.proofs.lemmas.Bool.{and_from, and_parts, cases_eq, both_ways, not-true, not_from_false}
use Rattle.std.proofs.lemmas.List.{get_or-map}
use Rattle.std.proofs.lemmas.List.Elements.{Contains-push_cases, Contains-push}
use Rattle.std.proofs.lemmas.Option.{get_or_from_slice_get, slice_get_within, slice_get_read}
use Rattle.pci_spec.specs.Slot.{Slot, IsSlot}
use Rattle.pci_spec.specs.System.{System, Space, Io, Memory, IsAddress}
use Rattle.pci_spec.proofs.Members.{in_nil}
use Rattle.pci_base.specs.Space.{space_of}
use Rattle.pci_tree.specs.Outline.{Tree}
use Rattle.pci_tree.specs.Ranges.{Holds}
use Rattle.pci_tree.specs.Trees.{HasTree}
use Rattle.judge_spec.specs.Told.{ToldRange, IsTold, IsToldRange}
use Rattle.judge_spec.specs.ToldClaims.{Told, told_register, is_range_on, is_marked_held, Holds as AreAt}
use Rattle.pci_faults.specs.declared.needed.Needed.{Needed}
use Rattle.pci_faults.specs.Needed.{IsOfRange, Which, IsOneOf, AreJustNeededRegions, Differ, AreNeededAppended, IsNeededRange}
use Rattle.pci_claims.specs.ToldOn.{AreOnIn}
use Rattle.pci_faults.proofs.NeededListing.{Apart, Either, both_added, none_added, same_added}

-- ---- ranges by index

below_address : (space : Space) (a b : ℕ) → a ≤ b → IsAddress space b → IsAddress space a
below_address Io a b le low = omega (arith, le, low)
below_address Memory a b le low = omega (arith, le, low)

-- told ranges with an index that is meant
abbrev pub IsOfRangeAt : Told → (ℕ → Type 0) → Which
IsOfRangeAt told At s slot register space a prefetch = (x : IsOfRange told s slot register space a prefetch) × At x.needs.named.index

abbrev pub Below : ℕ → ℕ → Type 0
Below n k = k < n

abbrev pub Is : ℕ → ℕ → Type 0
Is n k = k ≡ n

module _ (told : Told) where
  apart_by_index : (i : ℕ) → Apart (IsOfRangeAt told (Below i)) (IsOfRangeAt told (Is i))
  apart_by_index i s system slot register space a p sp b q (x, below) (y, is) =
      let one = x.needs.named.register in
      let other = y.needs.named.register in
      let no : ⊥ = omega (arith, below, is, one, other) in
      no

  either_index : (i : ℕ) → Either (IsOfRangeAt told (Below i)) (IsOfRangeAt told (Is i)) (IsOfRangeAt told (Below (i + 1)))
  either_index i s slot register space a p = (
    λ (x, below). elim (cases_eq x.needs.named.index i) [ inl same ↦ inr (x, same) | inr differ ↦ inl (x, omega (arith, below, differ)) ],
    λ of. elim of [ inl (x, below) ↦ (x, omega (arith, below)) | inr (x, is) ↦ (x, omega (arith, is)) ],
  )

  module _ (t : Tree) where
    pub no_ranges : (list : List Needed) → AreNeededAppended (IsOfRangeAt told (Below 0)) t list list
    no_ranges list = none_added (IsOfRangeAt told (Below 0)) t (λ s tree slot register space a p is. (let below = is.1 in let no : ⊥ = omega (arith, below) in no)) list

    pub one_range_more : (i : ℕ) (a b c : List Needed) → AreNeededAppended (IsOfRangeAt told (Below i)) t a b → AreNeededAppended (IsOfRangeAt told (Is i)) t b c → AreNeededAppended (IsOfRangeAt told (Below (i + 1))) t a c
    one_range_more i a b c one two = both_added (IsOfRangeAt told (Below i)) (IsOfRangeAt told (Is i)) (IsOfRangeAt told (Below (i + 1))) (apart_by_index i) (either_index i) t a b c one two

    pub all_ranges : (n : ℕ) → length told.ranges ≤ n → (a b : List Needed) → AreNeededAppended (IsOfRangeAt told (Below n)) t a b → AreNeededAppended (IsOfRange told) t a b
    all_ranges n end a b added = same_added (IsOfRangeAt told (Below n)) (IsOfRange told) t (λ s tree slot register space c p. (
      λ is. is.0,
      λ (x : IsOfRange told s slot register space c p). (x, let within = slice_get_within told.ranges x.needs.named.index x.r x.needs.named.at in omega (arith, within, end)),
    )) a b added

    -- ---- one range

    module _ (is_told : IsTold told.ranges) (i : ℕ) (r : ToldRange) (within : i < length told.ranges) (at : r ≡ get_or told.ranges i r) where
      range_is : (s : System) (slot : Slot) (register : ℕ) (space : Space) (a : ℕ) (p : Bool) → (x : IsOfRange told s slot register space a p) → x.needs.named.index ≡ i → x.r ≡ r
      range_is s slot register space a p x same =
          sym (get_or_from_slice_get told.ranges x.needs.named.index x.r x.r x.needs.named.at)
          ∙ ap (λ k. get_or told.ranges k x.r) same
          ∙ get_or_from_slice_get told.ranges i r x.r (slice_get_read told.ranges (length told.ranges) i r refl within at)

      line : IsToldRange r
      line = subst IsToldRange (sym at) (is_told.each i r within)

      there : slice_get told.ranges i ≡ Some r
      there = slice_get_read told.ranges (length told.ranges) i r refl within at

      module _ (s : System) (not_held : is_marked_held r.mark ≡ false) (on : is_range_on told s r ≡ true) (n : Needed) (is : IsNeededRange r (told_register i) n) where
        range_each : (a : ℕ) → Holds n.range a → IsOfRangeAt told (Is i) s n.name.slot n.name.register (space_of n.space) a n.prefetch
        range_each a held =
            let first = is.first_is in
            let last = is.last_is in (
              record {
                r = r;
                needs = record {
                  named = record { index = i; at = there; slot = sym is.slot_is; register = sym is.register_is };
                  not_held = not_held;
                  claims = record { on = on; holds = (sym is.space_is, omega (arith, first, held), omega (arith, last, held)) };
                };
                kind = sym is.prefetch_is;
              },
              refl,
            )

        range_only : (space : Space) (a : ℕ) (p : Bool) → IsOfRangeAt told (Is i) s n.name.slot n.name.register space a p → (space ≡ space_of n.space) × Holds n.range a × (p ≡ n.prefetch)
        range_only space a p (x, index) =
            let same = range_is s n.name.slot n.name.register space a p x index in
            let holds = subst (λ (q : ToldRange). AreAt q space a) same x.needs.claims.holds in
            let first = is.first_is in
            let last = is.last_is in (
              sym holds.0 ∙ sym is.space_is,
              (omega (arith, first, holds), omega (arith, last, holds)),
              sym x.kind ∙ ap (λ (q : ToldRange). q.prefetchable) same ∙ sym is.prefetch_is,
            )

        one_range : IsOneOf (IsOfRangeAt told (Is i)) s n
        one_range =
            let room = is_told.room in
            let forward = line.forward in
            let first = is.first_is in
            let last = is.last_is in
            let register = is.register_is in
            record {
              slot = subst IsSlot (sym is.slot_is) line.line.slot;
              register = omega (arith, room, within, register);
              some = omega (arith, forward, first, last);
              addresses = λ a held. subst (λ (space : Space). IsAddress space a) (sym is.space_is) (below_address r.space a r.last (omega (arith, last, held)) line.line.last);
              each = range_each;
              only = range_only;
            }

        one_is : AreJustNeededRegions (IsOfRangeAt told (Is i)) Differ s (n ∷ [])
        one_is = record {
          each = λ m has. elim (Contains-push_cases [] n m has) [
            | inl none ↦ absurd (in_nil m none)
            | inr same ↦ subst (IsOneOf (IsOfRangeAt told (Is i)) s) same one_range
          ];
          complete = λ slot register space a p (x, index).
              let same = range_is s slot register space a p x index in
              record {
                n = n;
                has = Contains-push [] n;
                slot_is = is.slot_is ∙ ap (λ (q : ToldRange). q.slot) (sym same) ∙ x.needs.named.slot;
                register_is = is.register_is ∙ ap told_register (sym index) ∙ x.needs.named.register;
              };
          pairs = λ j k d less inside. absurd (let no : ⊥ = omega (arith, less, inside) in no);
        }

      -- the list of those that are on tells of it
      on_is : (on : List Bool) → AreOnIn told t on → (s : System) → HasTree t s → get_or on i false ≡ is_range_on told s r
      on_is on are s tree =
          ap (λ (l : List Bool). get_or l i false) (are.each s tree) ∙ get_or-map (is_range_on told s) told.ranges i r false within ∙ ap (is_range_on told s) (sym at)

      abbrev IsNeededIn : System → Bool
      IsNeededIn s = not (is_marked_held r.mark) && is_range_on told s r

      needed_is : (on : List Bool) → AreOnIn told t on → (s : System) → HasTree t s → (not (is_marked_held r.mark) && get_or on i false) ≡ IsNeededIn s
      needed_is on are s tree = ap (λ c. not (is_marked_held r.mark) && c) (on_is on are s tree)

      pub range_added : (on : List Bool) → AreOnIn told t on → (not (is_marked_held r.mark) && get_or on i false) ≡ true
          → (n : Needed) → IsNeededRange r (told_register i) n → (before after : List Needed) → after ≡ before ++ n ∷ [] → AreNeededAppended (IsOfRangeAt told (Is i)) t before after
      range_added on are needed n is before after appended = record {
        more = n ∷ [];
        appended = appended;
        are = λ s tree.
            let both = and_parts (not (is_marked_held r.mark)) (is_range_on told s r) (sym (needed_is on are s tree) ∙ needed) in
            one_is s (not-true (is_marked_held r.mark) both.0) both.1 n is;
      }

      pub range_left : (on : List Bool) → AreOnIn told t on → (not (is_marked_held r.mark) && get_or on i false) ≡ false
          → (list : List Needed) → AreNeededAppended (IsOfRangeAt told (Is i)) t list list
      range_left on are unneeded list = none_added (IsOfRangeAt told (Is i)) t (λ s tree slot register space a p (x, index).
          let same = range_is s slot register space a p x index in
          both_ways (IsNeededIn s) (sym (needed_is on are s tree) ∙ unneeded) (and_from (not (is_marked_held r.mark)) (is_range_on told s r)
          (not_from_false (is_marked_held r.mark) (subst (λ (q : ToldRange). is_marked_held q.mark ≡ false) same x.needs.not_held))
          (subst (λ (q : ToldRange). is_range_on told s q ≡ true) same x.needs.claims.on))) list
