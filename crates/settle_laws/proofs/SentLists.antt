-- Addresses lie whole in a range of the lists where the host sends each of them, and only there.
use Rattle.std.proofs.Common.{◌≡◌, ℕ, ◌+◌, ◌≤◌, inl, inr, map, Option, None, Some, true, ◌&&◌, arith, refl, sym, ◌∙◌, ap}
use Rattle.std.specs.Bool.{nat_le}
use Rattle.std.specs.List.{Contains, filter, list_any}
use Rattle.std.proofs.lemmas.Bool.{and_from, and_parts, cases_lt, le-leb, leb-true, or_cases, or_left, or_right}
use Rattle.std.proofs.lemmas.List.Elements.{Contains-append_cases, Contains-append_left, Contains-append_right}
use Rattle.pci_spec.specs.Window.{WindowKind, IoWindow, MemoryWindow, PrefetchWindow}
use Rattle.pci_spec.specs.Decoded.{Range, InRange}
use Rattle.pci_spec.specs.System.{Space, Io, Memory}
use Rattle.pci_spec.proofs.Members.{in_map_to, in_map_from, in_filter_to, in_filter_from, IsMade}
use Rattle.plan_spec.specs.Planning.Layout.{IsInside}
use Rattle.plan_spec.proofs.Planning.Behind.{Passes, any_gives, any_from}
use Rattle.judge_spec.specs.Given.{is_for, sends, starts}
use Rattle.settle_spec.specs.Lists.{RootRange, Request, is_had_by, list_of, class_ranges}
use Rattle.settle_spec.specs.Parts.{lies_within}
use Rattle.settle_spec.specs.Stands.{is_listed, is_in_lists}
use Rattle.settle_laws.proofs.InLists.{within_from, within_gives}
use Rattle.settle_laws.specs.HostLaws.{HaveGaps, host_by, host_range, list_in}

-- a root is one for which the host sends a range where it has that of the list
for_had : (o : Option ℕ) (bus : ℕ) → is_for o bus ≡ is_had_by o bus
for_had None bus = refl
for_had (Some root) bus = refl

-- what is sent to a root is in any of the ranges of the space
starts_is : (q : Request) (space : Space) (bus a : ℕ) → starts (host_by q) space bus a ≡ list_any (sends bus a) (map host_range (list_in q space))
starts_is q Io bus a = refl
starts_is q Memory bus a = refl

module _ (q : Request) (bus : ℕ) where
  -- a range of a space that the root has
  record IsHad (space : Space) (x : RootRange) : Type 0 where
    listed : Contains (list_in q space) x
    had : is_had_by x.root bus ≡ true

  -- ---- in the lists of a space

  had_in : (c : WindowKind) (r : Range) (x : RootRange) → Contains (list_of q.lists c) x → is_had_by x.root bus ≡ true → lies_within r x.range ≡ true → is_listed q bus r c ≡ true
  had_in c r x listed had within =
      any_from (lies_within r) (class_ranges q c bus) x.range
      (in_map_from (λ (y : RootRange). y.range) (filter (λ y. is_had_by y.root bus) (list_of q.lists c)) x (in_filter_from (λ y. is_had_by y.root bus) (list_of q.lists c) x listed had)) within

  listed_from : (space : Space) (r : Range) (x : RootRange) → IsHad space x → lies_within r x.range ≡ true → is_in_lists q bus r space ≡ true
  listed_from Io r x is within = had_in IoWindow r x is.listed is.had within
  listed_from Memory r x is within = elim (Contains-append_cases q.lists.memory q.lists.prefetch x is.listed) [
    | inl plain ↦ or_left (is_listed q bus r MemoryWindow) (is_listed q bus r PrefetchWindow) (had_in MemoryWindow r x plain is.had within)
    | inr prefetch ↦ or_right (is_listed q bus r MemoryWindow) (is_listed q bus r PrefetchWindow) (had_in PrefetchWindow r x prefetch is.had within)
  ]

  record IsInOne (space : Space) (r : Range) : Type 0 where
    x : RootRange
    is : IsHad space x
    within : lies_within r x.range ≡ true

  in_one : (c : WindowKind) (r : Range) → is_listed q bus r c ≡ true → (x : RootRange) × Contains (list_of q.lists c) x × (is_had_by x.root bus ≡ true) × (lies_within r x.range ≡ true)
  in_one c r h =
      let found : Passes (lies_within r) (class_ranges q c bus) = any_gives (lies_within r) (class_ranges q c bus) h in
      let made : IsMade (λ (y : RootRange). y.range) (filter (λ y. is_had_by y.root bus) (list_of q.lists c)) found.x = in_map_to (λ (y : RootRange). y.range) (filter (λ y. is_had_by y.root bus) (list_of q.lists c)) found.x found.listed in
      let kept = in_filter_to (λ y. is_had_by y.root bus) (list_of q.lists c) made.from made.has in
      (made.from, kept.0, kept.1, ap (lies_within r) made.is ∙ found.is)

  listed_gives : (space : Space) (r : Range) → is_in_lists q bus r space ≡ true → IsInOne space r
  listed_gives Io r h = let one = in_one IoWindow r h in record { x = one.0; is = record { listed = one.1; had = one.2 }; within = one.3 }
  listed_gives Memory r h = elim (or_cases (is_listed q bus r MemoryWindow) (is_listed q bus r PrefetchWindow) h) [
    | inl plain ↦ (let one = in_one MemoryWindow r plain in record { x = one.0; is = record { listed = Contains-append_left q.lists.memory q.lists.prefetch one.0 one.1; had = one.2 }; within = one.3 })
    | inr prefetch ↦ (let one = in_one PrefetchWindow r prefetch in record { x = one.0; is = record { listed = Contains-append_right q.lists.memory q.lists.prefetch one.0 one.1; had = one.2 }; within = one.3 })
  ]

  -- ---- sent by the host

  sent_from : (space : Space) (a : ℕ) (x : RootRange) → IsHad space x → InRange x.range a → starts (host_by q) space bus a ≡ true
  sent_from space a x is (low, high) =
      starts_is q space bus a
      ∙ any_from (sends bus a) (map host_range (list_in q space)) (host_range x) (in_map_from host_range (list_in q space) x is.listed)
      (and_from (is_for x.root bus && nat_le x.range.first a) (nat_le a x.range.last) (and_from (is_for x.root bus) (nat_le x.range.first a) (for_had x.root bus ∙ is.had) (le-leb x.range.first a low)) (le-leb a x.range.last high))

  record IsSent (space : Space) (a : ℕ) : Type 0 where
    x : RootRange
    is : IsHad space x
    inside : InRange x.range a

  sent_gives : (space : Space) (a : ℕ) → starts (host_by q) space bus a ≡ true → IsSent space a
  sent_gives space a h =
      let found : Passes (sends bus a) (map host_range (list_in q space)) = any_gives (sends bus a) (map host_range (list_in q space)) (sym (starts_is q space bus a) ∙ h) in
      let made : IsMade host_range (list_in q space) found.x = in_map_to host_range (list_in q space) found.x found.listed in
      let x = made.from in
      let sent = and_parts (is_for x.root bus && nat_le x.range.first a) (nat_le a x.range.last) (ap (sends bus a) made.is ∙ found.is) in
      let low = and_parts (is_for x.root bus) (nat_le x.range.first a) sent.0 in
      record {
        x = x;
        is = record { listed = made.has; had = sym (for_had x.root bus) ∙ low.0 };
        inside = (leb-true x.range.first a low.1, leb-true a x.range.last sent.1);
      }

  -- ---- the law

  pub listed_sent : (space : Space) (r : Range) → is_in_lists q bus r space ≡ true → (a : ℕ) → InRange r a → starts (host_by q) space bus a ≡ true
  listed_sent space r h a (low, high) =
      let one = listed_gives space r h in
      let inside : IsInside r one.x.range = within_gives r one.x.range one.within in
      let from = inside.0 in
      let end = inside.1 in
      sent_from space a one.x one.is (omega (arith, low, from), omega (arith, high, end))

  pub sent_listed : HaveGaps q → (space : Space) (r : Range) → r.first ≤ r.last → ((a : ℕ) → InRange r a → starts (host_by q) space bus a ≡ true) → is_in_lists q bus r space ≡ true
  sent_listed gaps space r some sent =
      let s = sent_gives space r.first (sent r.first (omega arith, some)) in
      let from = s.inside.0 in
      let has = s.inside.1 in
      elim (cases_lt s.x.range.last r.last) [
        | inr whole ↦ listed_from space r s.x s.is (within_from r s.x.range (from, whole))
        | inl short ↦
            let t = sent_gives space (s.x.range.last + 1) (sent (s.x.range.last + 1) (omega (arith, has), omega (arith, short))) in
            let low = t.inside.0 in
            let high = t.inside.1 in
            absurd (elim (gaps space bus s.x t.x s.is.listed t.is.listed s.is.had t.is.had) [
              | inl same ↦ (let ends : s.x.range.last ≡ t.x.range.last = ap (λ (y : Range). y.last) same in let no : ⊥ = omega (arith, ends, high) in no)
              | inr (inl below) ↦ (let no : ⊥ = omega (arith, below, low) in no)
              | inr (inr above) ↦ (let no : ⊥ = omega (arith, above, from, has, high) in no)
            ])
      ]
