-- The regions of a record are the parts of its function that claim addresses.
use Rattle.std.proofs.Common.{◌≡◌, ℕ, ◌+◌, ◌<◌, ◌≤◌, map, refl, true, false, inl, inr, arith, sym, ◌∙◌, ap, subst, Option, Some, None, if◌then◌else◌}
use Rattle.std.specs.Prelude.{◌↔◌, ◌==◌}
use Rattle.std.specs.Option.{is_some}
use Rattle.std.specs.List.{Contains, filter, range_with_len}
use Rattle.std.proofs.lemmas.Bool.{cases_Bool, lt-ltb, ltb-true}
use Rattle.std.proofs.lemmas.List.Elements.{All-contains}
use Rattle.pci_spec.specs.Slot.{Slot}
use Rattle.pci_spec.specs.Header.{command, layout, bar_count}
use Rattle.pci_spec.specs.Bar.{IoBar, Memory32, Memory64, Reserved, bar_at, bar_kind, is_io, type_bits, BarDecodes, has_bar}
use Rattle.pci_spec.specs.System.{Function, Space, Io, Memory, IsAddress, is_space_on, Claims}
use Rattle.pci_spec.specs.System as system
use Rattle.pci_spec.specs.Decoded.{IsDecodable, record_of, decoded_bar, decoded_bars, DecodedBar, InRange}
use Rattle.pci_spec.specs.Decoded as decoded
use Rattle.pci_spec.proofs.Members.{IsMade, in_map_to, in_map_from, in_filter_to, in_filter_from, in_range_to, in_range_from}
use Rattle.pci_spec.proofs.Ranges.{decoded_bar-decodes, has_bar-of_decodes}
use Rattle.pci_image.specs.declared.bar.Bar.{Bar}
use Rattle.pci_image.specs.declared.bar.BarKind.{BarKind}
use Rattle.pci_image.specs.declared.bar.BarKind.TheVariants as kinds
use Rattle.pci_image.specs.Bars.{decoded_kind_of, decoded_bar_of}
use Rattle.pci_function.specs.declared.record.Record.{Record}
use Rattle.pci_tree.specs.declared.region.Region.{Region}
use Rattle.pci_function.specs.Values.{record_value}
use Rattle.pci_base.specs.Space.{is_on}
use Rattle.pci_tree.specs.Regions.{space_in, same_space, is_bar_of, bar_region, bar_regions, IsRegionOf, HasRegionOf, IsSpanIn, IsLawful}
use Rattle.pci_tree.proofs.Lifting.{same_slot_of}

pub is_same_space : (space other : Space) → same_space space other ≡ true → space ≡ other
is_same_space Io Io e = refl
is_same_space Io Memory e = cc
is_same_space Memory Io e = cc
is_same_space Memory Memory e = refl

same_space_itself : (space : Space) → same_space space space ≡ true
same_space_itself Io = refl
same_space_itself Memory = refl

pub on_same : (f : Function) (space : Space) → is_space_on f space ≡ is_on (command f.image) space
on_same f Io = refl
on_same f Memory = refl

pub address_below : (space : Space) (a b : ℕ) → a ≤ b → IsAddress space b → IsAddress space a
address_below Io a b le small = omega arith
address_below Memory a b le small = omega arith

pub some_is : {X : Type 0} (o : Option X) → is_some o ≡ true → (x : X) × (o ≡ Some x)
some_is None e = cc
some_is (Some x) e = (x, refl)

-- ---- BARs

memory_kind : (k : BarKind) (m : ℕ) → is_io m ≡ false → decoded_kind_of k ≡ bar_kind m → Memory ≡ space_in k
memory_kind kinds.Io m off e = elim (cases_Bool (type_bits m == 2)) [
  | inl wide ↦ (let k : IoBar ≡ Memory64 = e ∙ rw (off, wide) refl in cc)
  | inr narrow ↦ elim (cases_Bool (type_bits m == 0)) [
    | inl is ↦ (let k : IoBar ≡ Memory32 = e ∙ rw (off, narrow, is) refl in cc)
    | inr other ↦ (let k : IoBar ≡ Reserved = e ∙ rw (off, narrow, other) refl in cc)
  ]
]
memory_kind kinds.Mem32 m off e = refl
memory_kind kinds.Mem64 m off e = refl

io_kind : (k : BarKind) → decoded_kind_of k ≡ IoBar → Io ≡ space_in k
io_kind kinds.Io e = refl
io_kind kinds.Mem32 e = cc
io_kind kinds.Mem64 e = cc

kind_space : (k : BarKind) (m : ℕ) → decoded_kind_of k ≡ bar_kind m → (if is_io m then Io else Memory) ≡ space_in k
kind_space k m e = elim (cases_Bool (is_io m)) [
  | inl io ↦ rw io (io_kind k (e ∙ rw io refl))
  | inr memory ↦ rw memory (memory_kind k m memory e)
]

-- an implemented BAR of a record, and the register that starts it
pub record IsBarAt (f : Function) (b : Bar) (n : ℕ) : Type 0 where
  pub within : n < bar_count (layout f.image)
  pub there : has_bar f.probe n ≡ true
  pub is : decoded_bar_of b ≡ decoded_bar f.image f.probe n

bar_is_region : (f : Function) (slot : Slot) (b : Bar) (n : ℕ) → IsDecodable f → slot ≡ f.slot → IsBarAt f b n → IsSpanIn (space_in b.kind) b.first b.last
    → is_on (command f.image) (space_in b.kind) ≡ true → IsRegionOf f (system.Bar n) (space_in b.kind) (bar_region slot b)
bar_is_region f slot b n is e at span on =
    let maps : system.space_of f (system.Bar n) ≡ space_in b.kind = kind_space b.kind (bar_at f.probe n) (ap (λ (d : DecodedBar). d.kind) at.is) in
    record {
      slot = e;
      register = ap (λ (d : DecodedBar). d.register) at.is;
      named = refl;
      prefetch = ap (λ (d : DecodedBar). d.prefetchable) at.is;
      some = span.0;
      claims = λ a. (
          let same : InRange (decoded_bar f.image f.probe n).range a ↔ BarDecodes f.image f.probe n a = decoded_bar-decodes f.image f.probe n at.there (is.bars n at.within) a in (
            λ (h : (b.first ≤ a) × (a ≤ b.last)). record {
              there = lt-ltb n (bar_count (layout f.image)) at.within;
              enabled = on_same f (system.space_of f (system.Bar n)) ∙ ap (is_on (command f.image)) maps ∙ on;
              maps = maps;
              address = address_below (space_in b.kind) a b.last h.1 span.1;
              decodes = same.0 (subst (λ (d : DecodedBar). InRange d.range a) at.is h);
            },
            λ (h : Claims f (system.Bar n) (space_in b.kind) a). subst (λ (d : DecodedBar). InRange d.range a) (sym at.is) (same.1 h.decodes),
          ));
    }

-- each BAR of a record is that of a register
pub bar_at_register : (r : Record) (f : Function) (b : Bar) → record_value r ≡ record_of f → Contains r.bars.items b → (n : ℕ) × IsBarAt f b n
bar_at_register r f b e has =
    let bars : map decoded_bar_of r.bars.items ≡ decoded_bars f.image f.probe = ap (λ (x : decoded.Record). x.bars) e in
    let made : IsMade (decoded_bar f.image f.probe) (filter (has_bar f.probe) (range_with_len 0 (bar_count (layout f.image)))) (decoded_bar_of b) =
    in_map_to (decoded_bar f.image f.probe) (filter (has_bar f.probe) (range_with_len 0 (bar_count (layout f.image)))) (decoded_bar_of b)
    (subst (λ xs. Contains xs (decoded_bar_of b)) bars (in_map_from decoded_bar_of r.bars.items b has)) in
    let kept : Contains (range_with_len 0 (bar_count (layout f.image))) made.from × (has_bar f.probe made.from ≡ true) =
    in_filter_to (has_bar f.probe) (range_with_len 0 (bar_count (layout f.image))) made.from made.has in
    let inside : (0 ≤ made.from) × (made.from < 0 + bar_count (layout f.image)) = in_range_to 0 (bar_count (layout f.image)) made.from kept.0 in
    (made.from, record { within = omega arith; there = kept.1; is = sym made.is })

-- and each register that starts an implemented BAR has one
pub bar_of_register : (r : Record) (f : Function) (n : ℕ) → record_value r ≡ record_of f → n < bar_count (layout f.image) → has_bar f.probe n ≡ true
    → (b : Bar) × Contains r.bars.items b × IsBarAt f b n
bar_of_register r f n e within there =
    let bars : map decoded_bar_of r.bars.items ≡ decoded_bars f.image f.probe = ap (λ (x : decoded.Record). x.bars) e in
    let has : Contains (decoded_bars f.image f.probe) (decoded_bar f.image f.probe n) =
    in_map_from (decoded_bar f.image f.probe) (filter (has_bar f.probe) (range_with_len 0 (bar_count (layout f.image)))) n
    (in_filter_from (has_bar f.probe) (range_with_len 0 (bar_count (layout f.image))) n (in_range_from 0 (bar_count (layout f.image)) n (omega arith) (omega arith)) there) in
    let made : IsMade decoded_bar_of r.bars.items (decoded_bar f.image f.probe n) =
    in_map_to decoded_bar_of r.bars.items (decoded_bar f.image f.probe n) (subst (λ xs. Contains xs (decoded_bar f.image f.probe n)) (sym bars) has) in
    (made.from, made.has, record { within = within; there = there; is = made.is })

-- the region is of some part of the function
abbrev pub IsRegionOfSome : Function → Space → Region → Type 0
IsRegionOfSome f space q = (part : system.Part) × IsRegionOf f part space q

pub bar_regions_are : (r : Record) (f : Function) (space : Space) (q : Region) → IsDecodable f → record_value r ≡ record_of f → IsLawful r → is_on (command f.image) space ≡ true
    → Contains (bar_regions r.slot space r.bars.items) q → IsRegionOfSome f space q
bar_regions_are r f space q is e lawful on has =
    let made : IsMade (bar_region r.slot) (filter (is_bar_of space) r.bars.items) q = in_map_to (bar_region r.slot) (filter (is_bar_of space) r.bars.items) q has in
    let b : Bar = made.from in
    let kept : Contains r.bars.items b × (is_bar_of space b ≡ true) = in_filter_to (is_bar_of space) r.bars.items b made.has in
    let at : (n : ℕ) × IsBarAt f b n = bar_at_register r f b e kept.0 in
    let maps : space_in b.kind ≡ space = is_same_space (space_in b.kind) space kept.1 in
    let region : IsRegionOf f (system.Bar at.0) (space_in b.kind) (bar_region r.slot b) =
    bar_is_region f r.slot b at.0 is (same_slot_of r f e) at.1 (All-contains (λ x. IsSpanIn (space_in x.kind) x.first x.last) r.bars.items b lawful.bars kept.0)
    (ap (is_on (command f.image)) maps ∙ on) in
    (system.Bar at.0, subst (λ z. IsRegionOf f (system.Bar at.0) space z) made.is (subst (λ z. IsRegionOf f (system.Bar at.0) z (bar_region r.slot b)) maps region))

pub bar_has_region : (r : Record) (f : Function) (n : ℕ) (space : Space) (a : ℕ) → IsDecodable f → record_value r ≡ record_of f → IsLawful r → Claims f (system.Bar n) space a
    → HasRegionOf (bar_regions r.slot space r.bars.items) f (system.Bar n) space
bar_has_region r f n space a is e lawful claims =
    let found : (b : Bar) × Contains r.bars.items b × IsBarAt f b n =
    bar_of_register r f n e (ltb-true n (bar_count (layout f.image)) claims.there) (has_bar-of_decodes f.image f.probe n a claims.decodes) in
    let b : Bar = found.0 in
    let at : IsBarAt f b n = found.2 in
    let maps : space_in b.kind ≡ space = sym (kind_space b.kind (bar_at f.probe n) (ap (λ (d : DecodedBar). d.kind) at.is)) ∙ claims.maps in
    let on : is_on (command f.image) (space_in b.kind) ≡ true =
    ap (is_on (command f.image)) (sym (kind_space b.kind (bar_at f.probe n) (ap (λ (d : DecodedBar). d.kind) at.is))) ∙ sym (on_same f (system.space_of f (system.Bar n))) ∙ claims.enabled in
    let region : IsRegionOf f (system.Bar n) (space_in b.kind) (bar_region r.slot b) =
    bar_is_region f r.slot b n is (same_slot_of r f e) at (All-contains (λ x. IsSpanIn (space_in x.kind) x.first x.last) r.bars.items b lawful.bars found.1) on in
    record {
      q = bar_region r.slot b;
      has = in_map_from (bar_region r.slot) (filter (is_bar_of space) r.bars.items) b
          (in_filter_from (is_bar_of space) r.bars.items b found.1 (ap (λ z. same_space z space) maps ∙ same_space_itself space));
      is = subst (λ z. IsRegionOf f (system.Bar n) z (bar_region r.slot b)) maps region;
    }
