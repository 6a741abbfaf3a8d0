-- What is told behind an unreached region.
use Rattle.std.proofs.Common.{◌≡◌, ℕ, List, ◌∷◌, ◌++◌, map, refl, sym, ◌∙◌, ap, Bool, true, false, codes, Option, inl, inr, ◌&&◌}
use Rattle.std.specs.Prelude.{◌↔◌}
use Rattle.std.specs.List.{Contains, flat_map}
use Rattle.std.proofs.lemmas.Bool.{cases_Bool, both_ways}
use Rattle.std.proofs.lemmas.List.Elements.{All-contains}
use Rattle.pci_spec.specs.Slot.{Slot}
use Rattle.pci_spec.specs.Text.{slot_text}
use Rattle.pci_spec.specs.System.{System, Function, Space, Io, Memory, is_bridge, window_space}
use Rattle.pci_spec.specs.Decoded.{Bridge, IsDecodable, record_of, decoded_windows}
use Rattle.pci_spec.specs.Decoded as decoded
use Rattle.pci_spec.specs.Listing.{inner_line, on_text}
use Rattle.pci_spec.specs.Why.{range_line, windows_text}
use Rattle.pci_spec.specs.Fault.{address_in, named_region}
use Rattle.pci_base.specs.declared.range.Range.{Range}
use Rattle.pci_base.specs.Ranges.{decoded_range_of}
use Rattle.pci_base.specs.Space.{kind_in, is_prefetch}
use Rattle.pci_function.specs.declared.record.Record.{Record}
use Rattle.pci_function.specs.Values.{record_value}
use Rattle.pci_tree.specs.Ranges.{Covers}
use Rattle.pci_tree.specs.Ways.{slots_of}
use Rattle.pci_tree.specs.Outline.{RiseBySlot}
use Rattle.pci_tree.proofs.Lifting.{Has}
use Rattle.pci_tree.proofs.Regions.{on_same}
use Rattle.pci_why.specs.Missed.{IsWithout}
use Rattle.pci_why.specs.Lines.{Appends}
use Rattle.pci_why.proofs.Evidences.{on_the_way, bridge_in}
use Rattle.pci_claims.proofs.Runs.{runs_of}
use Rattle.pci_why.proofs.Texts.{three_appended}
use Rattle.judge_spec.specs.Given.{Given, is_cut}
use Rattle.judge_spec.specs.Claims.{passes, Own as OwnPart}
use Rattle.judge_spec.specs.ToldClaims.{Told, ClaimsOnBus}
use Rattle.judge_spec.specs.ToldFault.{IsUnreached}
use Rattle.judge_spec.specs.Why.{AnyRegion, Own, Legacy, Palette, OfLine, space_of, bus_of, is_prefetchable, Holds, IsNamed, isa_words, unclaimed_words, legacy_words, region_line, bridge_line, IsBehindUnreached, Misses}
use Rattle.pci_claims.specs.Passed.{ArePassed, passes_with}
use Rattle.pci_claims.proofs.Linking.{passes_same}
use Rattle.pci_why.specs.declared.named.Shown.{Shown}
use Rattle.pci_why.specs.Named.{shown_line, is_shown_prefetchable, IsNamedIn}
use Rattle.pci_why.specs.Bridges.{bridge_text, line_of_bridge, IsMissed, IsBehindOneBridge}
use Rattle.pci_why.proofs.Recorded.{stands_for, has_record}

-- ---- the bridge's line

bridge_text_by : Given → Function → Space → Bool → Bool → List ℕ
bridge_text_by given b space prefetch on =
    inner_line (codes "bridge" ∷ slot_text b.slot ∷ on_text on ∷ windows_text space prefetch (decoded_windows b.image b.probe) ∷ isa_words given space b.slot ++ unclaimed_words given b.slot ++ legacy_words given b.slot)

bridge_same : (given : Given) (r : Record) (b : Function) (space : Space) (prefetch : Bool) → record_value r ≡ record_of b → is_bridge b ≡ true
    → line_of_bridge given (record_value r) space prefetch ≡ bridge_line given b space prefetch
unfolding bridge_text_by
bridge_same given r b space prefetch same is =
    ap (λ (x : decoded.Record). line_of_bridge given x space prefetch) same
    ∙ ap (λ (o : Option Bridge). bridge_text given (record_of b) space prefetch o) (bridge_in b is)
    ∙ ap (λ on. bridge_text_by given b space prefetch on) (sym (on_same b space))

-- ---- what it misses

by_kind : (given : Given) (space : Space) (prefetch : Bool) (a : ℕ) (b : Function)
    → passes given space prefetch a b ≡ passes given (window_space (kind_in space prefetch)) (is_prefetch (kind_in space prefetch)) a b
by_kind given Io prefetch a b = refl
by_kind given Memory false a b = refl
by_kind given Memory true a b = refl

missed_exact : (given : Given) (region : AnyRegion) (space : Space) (prefetch : Bool) (r : Record) (b : Function) (addresses passed missed : List Range) → record_value r ≡ record_of b → IsDecodable b → is_bridge b ≡ true
    → space_of region ≡ space → is_prefetchable region ≡ prefetch → ((a : ℕ) → Covers addresses a ↔ Holds given region a) → ArePassed given (kind_in space prefetch) r passed → IsWithout addresses passed missed
    → (a : ℕ) → Covers missed a ↔ Misses given region b a
missed_exact given region space prefetch r b addresses passed missed same is bridge of_space of_kind exact are outside a =
    let by_record : passes given (space_of region) (is_prefetchable region) a b ≡ passes_with given (kind_in space prefetch) a r =
    ap (λ sp. passes given sp (is_prefetchable region) a b) of_space ∙ ap (λ p. passes given space p a b) of_kind
    ∙ by_kind given space prefetch a b ∙ passes_same given (kind_in space prefetch) a r b is bridge same in (
      λ (h : Covers missed a). (
          let here = (outside.exact a).0 h in (
            (exact a).0 here.0,
            elim (cases_Bool (passes given (space_of region) (is_prefetchable region) a b)) [
              | inl on ↦ absurd (here.1 ((are.exact a).1 (sym by_record ∙ on)))
              | inr off ↦ off
            ],
          )),
      λ (h : Misses given region b a). (outside.exact a).1 ((exact a).1 h.0, λ covered. both_ways (passes given (space_of region) (is_prefetchable region) a b) h.1 (by_record ∙ (are.exact a).0 covered)),
    )

-- ---- a region that is named

pub named_space : (region : AnyRegion) (slot : Slot) (register : ℕ) (space : Space) → IsNamed region slot register space → space_of region ≡ space
named_space (Own q) slot register space named = named.2
named_space (Legacy b of_space) slot register space named = named.2
named_space (Palette b) slot register space named = named.2
named_space (OfLine x) slot register space named = named.2

pub named_bus : (region : AnyRegion) (slot : Slot) (register : ℕ) (space : Space) → IsNamed region slot register space → bus_of region ≡ slot.bus
named_bus (Own q) slot register space named = ap (λ (x : Slot). x.bus) named.0
named_bus (Legacy b of_space) slot register space named = ap (λ (x : Slot). x.bus) named.0
named_bus (Palette b) slot register space named = ap (λ (x : Slot). x.bus) named.0
named_bus (OfLine x) slot register space named = ap (λ (x : Slot). x.bus) named.0

-- ---- behind the fault

-- a bridge of the system with the slot
record IsBridgeAt (s : System) (bridge : Slot) : Type 0 where
  b : Function
  listed : Contains s b
  is : is_bridge b ≡ true
  at : b.slot ≡ bridge

module _ (told : Told) (given : Given) (roots : List ℕ) (s : System) (slot : Slot) (register : ℕ) (space : Space) (a : ℕ) (bridge : Slot) where
  -- the region that is named claims the address
  pub claims_there : IsUnreached told given roots s (named_region slot register) (address_in space a) bridge → ClaimsOnBus told given s slot.bus (address_in space a) (named_region slot register)
  claims_there (inl u) = inl (
    u.f,
    OwnPart u.part,
    u.listed,
    u.named.0,
    refl,
    u.named.1,
    record { claims = u.claims; kept = ap (λ b. b && is_cut given space a u.f.slot) u.no_window },
  )
  claims_there (inr u) = inr record { r = u.r; named = u.needs.named; on_the_bus = refl; claims = u.needs.claims }

  bridge_there : IsUnreached told given roots s (named_region slot register) (address_in space a) bridge → IsBridgeAt s bridge
  bridge_there (inl u) = (
      let way = on_the_way s u.root u.bridges slot.bus u.b u.leads u.on_the_way in
      record { b = u.b; listed = way.0; is = way.1; at = u.named_bridge })
  bridge_there (inr u) = (
      let way = on_the_way s u.root u.bridges slot.bus u.b u.leads u.on_the_way in
      record { b = u.b; listed = way.0; is = way.1; at = u.named_bridge })

  module _ (rs : List Record) (is : Has s rs) (there : IsUnreached told given roots s (named_region slot register) (address_in space a) bridge) where
    pub no_bridge_missing : (Contains (slots_of rs) bridge → ⊥) → ⊥
    no_bridge_missing none = let one = bridge_there there in none (has_record s rs one.b bridge is one.listed one.at)

    pub unreached_told : (shown : Shown) (addresses : List Range) (r : Record) (missed : List Range) (prefetch : Bool) (old first second new : List ℕ) → RiseBySlot rs → Contains rs r → r.slot ≡ bridge
        → IsNamedIn told given s (named_region slot register) space shown addresses → prefetch ≡ is_shown_prefetchable shown
        → first ≡ old ++ shown_line given (codes "needs") space shown → second ≡ first ++ line_of_bridge given (record_value r) space prefetch → IsMissed given r (kind_in space prefetch) addresses missed
        → new ≡ second ++ flat_map (range_line (codes "missed") space) (map decoded_range_of missed) → Appends (IsBehindOneBridge told given s (named_region slot register) space bridge) old new
    unreached_told shown addresses r missed prefetch old first second new rise has at one shows needs line is_missed text =
        let way = bridge_there there in
        let stands : record_value r ≡ record_of way.b = stands_for s rs r way.b is rise has way.listed (at ∙ sym way.at) in
        let v : AnyRegion = one.region in
        let of_space : space_of v ≡ space = named_space v slot register space one.named in
        let of_kind : is_prefetchable v ≡ prefetch = one.prefetchable ∙ sym shows in
        let missed_lines = flat_map (range_line (codes "missed") space) (map decoded_range_of missed) in
        let of_bridge = bridge_line given way.b space prefetch in
        let lines = region_line given (codes "needs") v ++ (of_bridge ++ missed_lines) in
        let behind : IsBehindUnreached told given s v bridge lines = record {
          is = one.is;
          b = way.b;
          listed = way.listed;
          named = way.at;
          missed = map decoded_range_of missed;
          runs = runs_of (Misses given v way.b) missed is_missed.outside.canonical
              (missed_exact given v space prefetch r way.b addresses is_missed.passed missed stands (All-contains IsDecodable s way.b is.decodable way.listed) way.is of_space of_kind one.exact is_missed.exact is_missed.outside);
          text = ap (λ sp. region_line given (codes "needs") v ++ (bridge_line given way.b sp prefetch ++ flat_map (range_line (codes "missed") sp) (map decoded_range_of missed))) (sym of_space)
              ∙ ap (λ p. region_line given (codes "needs") v ++ (bridge_line given way.b (space_of v) p ++ flat_map (range_line (codes "missed") (space_of v)) (map decoded_range_of missed))) (sym of_kind);
        } in
        record {
          lines = lines;
          text = three_appended old first second new _ of_bridge missed_lines (needs ∙ ap (λ t. old ++ t) (one.line (codes "needs")))
              (line ∙ ap (λ t. first ++ t) (bridge_same given r way.b space prefetch stands way.is)) text;
          are = (v, one.named, behind);
        }
