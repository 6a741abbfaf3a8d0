-- What gets to a bus.
use Rattle.std.proofs.Common.{◌≡◌, ℕ, ◌+◌, ◌<◌, ◌≤◌, List, [], ◌∷◌, ◌++◌, length, get_or, sym, ap, ◌∙◌, subst, inl, inr, arith, refl, Option, Some, None, Bool, true, false}
use Rattle.std.specs.Prelude.{◌↔◌, IsTrue, IfSome}
use Rattle.std.specs.List.{Contains}
use Rattle.std.proofs.lemmas.Bool.{cases_lt}
use Rattle.std.proofs.lemmas.List.{get_or_append_left, get_or_push, get_or_default}
use Rattle.pci_spec.specs.Window.{WindowKind}
use Rattle.pci_spec.specs.System.{Space, IsAddress, window_space}
use Rattle.pci_base.specs.declared.range.Range.{Range}
use Rattle.pci_function.specs.declared.record.Record.{Record}
use Rattle.pci_function.specs.Values.{record_value}
use Rattle.pci_tree.specs.Passes.{record_passes}
use Rattle.pci_tree.specs.Ranges.{Holds, Covers, IsCanonical}
use Rattle.pci_tree.specs.Passing.{Passes, IsReach}
use Rattle.pci_tree.specs.declared.forwarded.Forwarded.{Forwarded}
use Rattle.pci_tree.specs.Ways.{Leads, IsForest, IsBridgeIn, bus_behind, IsBridgeAbove}
use Rattle.pci_tree.specs.Reaches.{PassAll, GetsTo, IsReachOf, IsWhole, IsPassedOn, IsStep, StandsBelow}
use Rattle.pci_tree.proofs.Passing.{covers_push, canonical_push}
use Rattle.pci_tree.proofs.Ways.{way_ends, bridge_at}

pass_push : (kind : WindowKind) (way : List Record) (b : Record) (a : ℕ)
    → PassAll kind a (way ++ b ∷ []) ↔ (PassAll kind a way × IsTrue (record_passes kind a (record_value b)))
pass_push kind [] b a = (
  λ (h : IsTrue (record_passes kind a (record_value b)) × Unit {0}). (tt {0}, h.0),
  λ (h : Unit {0} × IsTrue (record_passes kind a (record_value b))). (h.1, tt {0}),
)
pass_push kind (c ∷ way) b a = (
  λ (h : IsTrue (record_passes kind a (record_value c)) × PassAll kind a (way ++ b ∷ [])).
      (let r : PassAll kind a way × IsTrue (record_passes kind a (record_value b)) = (pass_push kind way b a).0 h.1 in ((h.0, r.0), r.1)),
  λ (h : (IsTrue (record_passes kind a (record_value c)) × PassAll kind a way) × IsTrue (record_passes kind a (record_value b))).
      (h.0.0, (pass_push kind way b a).1 (h.0.1, h.1)),
)

pub leads_push : (records : List Record) (from : ℕ) (way : List Record) (b : Record) → IsBridgeIn records b → Leads records from way b.slot.bus
    → Leads records from (way ++ b ∷ []) (bus_behind b)
leads_push records from [] b bridge h = (bridge, sym h, refl)
leads_push records from (c ∷ way) b bridge (here, on, rest) = (here, on, leads_push records (bus_behind c) way b bridge rest)

none_covered : (a : ℕ) → Covers [] a → ⊥
none_covered a (k, r, within, at, held) = omega arith

nil_canonical : IsCanonical []
nil_canonical = record { each = λ k d within. absurd (omega arith); apart = λ i j d lt within. absurd (omega arith) }

-- the one range of a whole space
pub whole_of : (space : Space) (whole : Range) (out : List Range) → out ≡ whole ∷ [] → whole.first ≤ whole.last → ((a : ℕ) → Holds whole a ↔ IsAddress space a) → IsWhole space out
whole_of space whole out e lawful exact = subst (λ xs. IsWhole space xs) (sym e) (record {
  canonical = canonical_push [] whole nil_canonical lawful (λ a h. absurd (none_covered a h));
  exact = λ a. (
    λ (h : Covers (whole ∷ []) a). elim ((covers_push [] whole a).0 h) [ inl before ↦ absurd (none_covered a before) | inr held ↦ (exact a).0 held ],
    λ (h : IsAddress space a). (covers_push [] whole a).1 (inr ((exact a).1 h)),
  );
})

-- what a bridge passes of some ranges
pub passed_on_of : (above : List Range) (kind : WindowKind) (bridge : Record) (forwarded : Forwarded) (out : List Range)
    → ((a : ℕ) → Passes forwarded a ↔ IsTrue (record_passes kind a (record_value bridge))) → IsReach above forwarded out
    → IsPassedOn above kind (record_value bridge) out
passed_on_of above kind bridge forwarded out exact step = record {
  canonical = step.canonical;
  exact = λ a. (
    λ (h : Covers out a). (let p : Covers above a × Passes forwarded a = (step.exact a).0 h in (p.0, (exact a).0 p.1)),
    λ (h : Covers above a × IsTrue (record_passes kind a (record_value bridge))). (step.exact a).1 (h.0, (exact a).1 h.1),
  );
}

-- every address gets to a root
root_reach : (records : List Record) (roots : List ℕ) (kind : WindowKind) (bus : ℕ) (out : List Range) → Contains roots bus → IsWhole (window_space kind) out
    → IsReachOf records roots kind bus out
root_reach records roots kind bus out starts whole = record {
  canonical = whole.canonical;
  exact = λ a. (
    λ (h : Covers out a). ((whole.exact a).0 h, record { root = bus; starts = starts; way = []; leads = refl; pass = tt {0} }),
    λ (h : IsAddress (window_space kind) a × GetsTo records roots kind a bus). (whole.exact a).1 h.0,
  );
}

-- nothing gets to a bus that is no root and that no bridge leads to
orphan_reach : (records : List Record) (roots : List ℕ) (kind : WindowKind) (bus : ℕ) → (Contains roots bus → ⊥)
    → ((b : Record) → IsBridgeIn records b → bus_behind b ≡ bus → ⊥) → IsReachOf records roots kind bus []
orphan_reach records roots kind bus off orphan = record {
  canonical = nil_canonical;
  exact = λ a. (
    λ (h : Covers [] a). absurd (none_covered a h),
    λ (h : IsAddress (window_space kind) a × GetsTo records roots kind a bus). (let g : GetsTo records roots kind a bus = h.1 in
        elim (way_ends records g.root g.way bus g.leads) [
          | inl same ↦ absurd (off (subst (Contains roots) same.0 g.starts))
          | inr ends ↦ absurd (orphan ends.last ends.bridge ends.there)
        ]),
  );
}

-- what gets to a bus is what gets to the bus above, and is passed
bridge_reach : (records : List Record) (roots : List ℕ) (kind : WindowKind) (bus : ℕ) (b : Record) (above out : List Range) → IsForest records
    → (Contains roots bus → ⊥) → IsBridgeIn records b → bus_behind b ≡ bus → IsReachOf records roots kind b.slot.bus above
    → IsPassedOn above kind (record_value b) out → IsReachOf records roots kind bus out
bridge_reach records roots kind bus b above out forest off bridge there so step = record {
  canonical = step.canonical;
  exact = λ a. (
    λ (h : Covers out a). (
        let p : Covers above a × IsTrue (record_passes kind a (record_value b)) = (step.exact a).0 h in
        let q : IsAddress (window_space kind) a × GetsTo records roots kind a b.slot.bus = (so.exact a).0 p.0 in
        let g : GetsTo records roots kind a b.slot.bus = q.1 in (
          q.0,
          record {
            root = g.root;
            starts = g.starts;
            way = g.way ++ b ∷ [];
            leads = subst (λ n. Leads records g.root (g.way ++ b ∷ []) n) there (leads_push records g.root g.way b bridge g.leads);
            pass = (pass_push kind g.way b a).1 (g.pass, p.1);
          },
        )),
    λ (h : IsAddress (window_space kind) a × GetsTo records roots kind a bus). (let g : GetsTo records roots kind a bus = h.1 in
        elim (way_ends records g.root g.way bus g.leads) [
          | inl same ↦ absurd (off (subst (Contains roots) same.0 g.starts))
          | inr ends ↦ (
              let one : ends.last ≡ b = forest.single ends.last b ends.bridge bridge (ends.there ∙ sym there) in
              let p : PassAll kind a ends.front × IsTrue (record_passes kind a (record_value ends.last)) =
              (pass_push kind ends.front ends.last a).0 (subst (λ w. PassAll kind a w) ends.whole g.pass) in
              (step.exact a).1 (
                (so.exact a).1 (
                  h.0,
                  record {
                    root = g.root;
                    starts = g.starts;
                    way = ends.front;
                    leads = subst (λ (c : Record). Leads records g.root ends.front c.slot.bus) one ends.leads;
                    pass = p.0;
                  },
                ),
                subst (λ (c : Record). IsTrue (record_passes kind a (record_value c))) one p.1,
              ))
        ]),
  );
}

one_of : (records : List Record) (k : ℕ) → k < length records → Record
one_of [] k within = absurd (omega arith)
one_of (r ∷ records) k within = r

pub step_reach : (records : List Record) (roots : List ℕ) (kind : WindowKind) (bus : ℕ) (above : List (List Range)) (index : Option ℕ) (is_root : Bool)
    (out : List Range) → IsForest records → IsBridgeAbove records bus index → (is_root ≡ true → Contains roots bus) → (is_root ≡ false → Contains roots bus → ⊥)
    → ((k : ℕ) (e : List Range) → k < bus → IsReachOf records roots kind k (get_or above k e)) → IsStep above records index kind is_root out
    → IsReachOf records roots kind bus out
step_reach records roots kind bus above None true out forest at is off so step = root_reach records roots kind bus out (is refl) step
step_reach records roots kind bus above (Some k) true out forest at is off so step = root_reach records roots kind bus out (is refl) step
step_reach records roots kind bus above None false out forest at is off so step =
    subst (λ xs. IsReachOf records roots kind bus xs) (sym step) (orphan_reach records roots kind bus (off refl) at)
step_reach records roots kind bus above (Some k) false out forest at is off so step =
    let z : Record = one_of records k at.within in
    let b : Record = get_or records k z in
    let bridge : IsBridgeIn records b × (bus_behind b ≡ bus) = bridge_at records bus k z at in
    let rises : b.slot.bus < bus_behind b = forest.rises b bridge.0 in
    let there : bus_behind b ≡ bus = bridge.1 in
    bridge_reach records roots kind bus b (get_or above b.slot.bus []) out forest (off refl) bridge.0 there (so b.slot.bus [] (omega arith)) (step [] z)

-- one more element that P holds of
pub more_at : (P : ℕ → List Range → Type 0) (out new : List (List Range)) (r : List Range) (n : ℕ) → new ≡ out ++ r ∷ [] → length out ≡ n
    → ((k : ℕ) (d : List Range) → k < n → P k (get_or out k d)) → P n r → (k : ℕ) (d : List Range) → k < n + 1 → P k (get_or new k d)
more_at P out new r n e size h here k d lt = elim (cases_lt k n) [
  | inl low ↦ subst (P k) (sym (ap (λ xs. get_or xs k d) e ∙ get_or_append_left out (r ∷ []) d k (omega arith))) (h k d low)
  | inr ge ↦ (let same : n ≡ k = omega arith in
      subst (λ m. P m (get_or new m d)) same (subst (P n) (sym (ap (λ xs. get_or xs n d) e ∙ get_or_push out r d n size)) here))
]

-- the step to a bus that a bridge leads to, from what its index and its bus are read as
pub step_of : (above : List (List Range)) (records : List Record) (k bus : ℕ) (bridge : Record) (parent ranges : List Range) (index : Option ℕ) (kind : WindowKind)
    (is_root : Bool) (forwarded : Forwarded) (out : List Range) → index ≡ Some k → is_root ≡ false → k < length records → bridge ≡ get_or records k bridge
    → bus ≡ bridge.slot.bus → bus < length above → parent ≡ get_or above bus parent → ranges ≡ parent
    → ((a : ℕ) → Passes forwarded a ↔ IsTrue (record_passes kind a (record_value bridge))) → IsReach ranges forwarded out
    → IsStep above records index kind is_root out
step_of above records k bus bridge parent ranges index kind is_root forwarded out some off within here on low there lent exact step =
    let got : IsPassedOn ranges kind (record_value bridge) out = passed_on_of ranges kind bridge forwarded out exact step in
    let each : IsStep above records (Some k) kind false out = λ d r. (
    let same : bridge ≡ get_or records k r = here ∙ get_or_default records k bridge r within in
    let at : ranges ≡ get_or above bridge.slot.bus d = lent ∙ there ∙ get_or_default above bus parent d low ∙ ap (λ n. get_or above n d) on in
    subst (λ (x : Record). IsPassedOn (get_or above x.slot.bus d) kind (record_value x) out) same
    (subst (λ xs. IsPassedOn xs kind (record_value bridge) out) at got)) in
    subst (λ b. IsStep above records index kind b out) (sym off) (subst (λ o. IsStep above records o kind false out) (sym some) each)

-- the bus of the bridge at an index is lower
pub stands_below : (records : List Record) (n k bus : ℕ) (bridge : Record) (index : Option ℕ) → index ≡ Some k → bridge ≡ get_or records k bridge → bus ≡ bridge.slot.bus
    → IfSome index (StandsBelow records n)
    → (k < length records) × (bus < n)
stands_below records n k bus bridge index some here on lower =
    let at : StandsBelow records n k = subst (λ o. IfSome o (StandsBelow records n)) some lower in
    let low : bridge.slot.bus < n = subst (λ (r : Record). r.slot.bus < n) (sym here) (at.1 bridge) in
    (at.0, omega arith)

-- the bridge above a bus stands on a lower one
pub above_below : (records : List Record) (bus n : ℕ) (index : Option ℕ) → IsForest records → n ≡ bus → IsBridgeAbove records bus index → IfSome index (StandsBelow records n)
above_below records bus n None forest e at = tt {0}
above_below records bus n (Some k) forest e at = (
  at.within,
  λ d. (
      let bridge : IsBridgeIn records (get_or records k d) × (bus_behind (get_or records k d) ≡ bus) = bridge_at records bus k d at in
      let rises : (get_or records k d).slot.bus < bus_behind (get_or records k d) = forest.rises (get_or records k d) bridge.0 in
      let there : bus_behind (get_or records k d) ≡ bus = bridge.1 in omega arith),
)
