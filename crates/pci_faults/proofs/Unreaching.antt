-- The first stop of a region as what a list of all faults names of it.
use Rattle.std.proofs.Common.{◌≡◌, ℕ, zero, suc, ◌<◌, ◌≤◌, ◌⊎◌, List, [], ◌∷◌, length, get_or, map, take, Bool, true, false, inl, inr, arith, subst, sym, ◌∙◌, ap, refl, Option, Some, None}
use Rattle.std.specs.Prelude.{MatchOption}
use Rattle.std.specs.List.{All, Contains}
use Rattle.std.proofs.lemmas.Bool.{cases_lt, cases_order, both_ways, false_from_ne_true}
use Rattle.std.proofs.lemmas.List.{get_or_default, get_or-map, get_or-take, length-map, length-take-le}
use Rattle.pci_spec.specs.Slot.{Slot, slot_number}
use Rattle.pci_spec.specs.Header.{secondary_bus}
use Rattle.pci_spec.specs.Window.{WindowKind}
use Rattle.pci_spec.specs.System.{System, Function, Space, Io, Memory, Leads, is_bridge, is_prefetchable_part, window_space}
use Rattle.pci_spec.specs.Bus.{IsNested}
use Rattle.pci_spec.specs.Decoded.{HasRecords}
use Rattle.pci_spec.specs.Decoded as decoded
use Rattle.pci_spec.specs.Fault.{address_in, named_region}
use Rattle.pci_spec.proofs.Firsts.{later_is_higher, slot_of}
use Rattle.pci_base.specs.Space.{space_of, is_prefetch, kind_in}
use Rattle.pci_function.specs.declared.record.Record.{Record}
use Rattle.pci_function.specs.Values.{record_value}
use Rattle.pci_tree.specs.Outline.{Tree, RiseBySlot, IsPathTo}
use Rattle.pci_tree.specs.Ranges.{Holds}
use Rattle.pci_tree.proofs.Lifting.{Has}
use Rattle.pci_tree.specs.Trees.{HasTree}
use Rattle.judge_spec.specs.Given.{Given, starts}
use Rattle.judge_spec.specs.Claims.{passes}
use Rattle.judge_spec.specs.ToldClaims.{Told}
use Rattle.judge_spec.specs.ToldFault.{IsUnreached}
use Rattle.pci_claims.specs.Outside.{IsSent, IsRootOfPath}
use Rattle.pci_claims.specs.Reached.{PassesAt}
use Rattle.pci_faults.specs.declared.needed.Needed.{Needed}
use Rattle.pci_faults.specs.Needed.{IsNeeded, IsOneOf}
use Rattle.pci_faults.specs.Stopped.{PassesSent, IsFirstBridgeThatStops, IsNeverUnreached, IsUnreachedLine}
use Rattle.pci_claims.proofs.Walking.{bridge_at}
use Rattle.pci_faults.proofs.Sending.{root_is}

-- ---- bridges of a way

-- each is a bridge of the system
way_at : (s : System) (from : ℕ) (bridges : List Function) (to k : ℕ) (z : Function) → Leads s from bridges to → k < length bridges
    → Contains s (get_or bridges k z) × (is_bridge (get_or bridges k z) ≡ true)
way_at s from [] to k z leads within = absurd (let no : ⊥ = omega (arith, within) in no)
way_at s from (b ∷ bridges) to zero z (has, bridge, on, rest) within = (has, bridge)
way_at s from (b ∷ bridges) to (suc k) z (has, bridge, on, rest) within = way_at s (secondary_bus b.image) bridges to k z rest (omega (arith, within))

-- ---- kinds of access

passes_kind : (given : Given) (space : Space) (prefetch : Bool) (a : ℕ) (b : Function) → passes given (window_space (kind_in space prefetch)) (is_prefetch (kind_in space prefetch)) a b ≡ passes given space prefetch a b
passes_kind given Io prefetch a b = refl
passes_kind given Memory true a b = refl
passes_kind given Memory false a b = refl

kind_space : (space : Space) (prefetch : Bool) → window_space (kind_in space prefetch) ≡ space
kind_space Io prefetch = refl
kind_space Memory true = refl
kind_space Memory false = refl

-- ---- answers

pub match_both : {X : Type 0} (o : Option X) (A B : Type 0) (P Q : X → Type 0) → (A → B) → ((x : X) → P x → Q x) → MatchOption o A P → MatchOption o B Q
match_both None A B P Q none some is = none is
match_both (Some x) A B P Q none some is = some x is

-- ---- faults 60 of a name

-- a bridge on the way to a bus stops an address that is sent
pub record IsStopped (given : Given) (roots : List ℕ) (s : System) (bus : ℕ) (space : Space) (prefetch : Bool) (a : ℕ) (bridge : Slot) : Type 0 where
  pub bridges : List Function
  pub root : ℕ
  pub is_root : Contains roots root
  pub leads : Leads s root bridges bus
  pub sent : starts given space root a ≡ true
  pub b : Function
  pub on_the_way : Contains bridges b
  pub named_bridge : b.slot ≡ bridge
  pub stops : passes given space prefetch a b ≡ false

module _ (told : Told) (given : Given) (roots : List ℕ) (s : System) (slot : Slot) (register : ℕ) (space : Space) (a : ℕ) (bridge : Slot) where
  pub unreached_from : IsUnreached told given roots s (named_region slot register) (address_in space a) bridge → (p : Bool) × IsNeeded told s slot register space a p × IsStopped given roots s slot.bus space p a bridge
  unreached_from (inl u) = (
    is_prefetchable_part u.f u.part,
    inl record { f = u.f; part = u.part; listed = u.listed; named = u.named; no_window = u.no_window; claims = u.claims; kind = refl },
    record { bridges = u.bridges; root = u.root; is_root = u.is_root; leads = u.leads; sent = u.sent; b = u.b; on_the_way = u.on_the_way; named_bridge = u.named_bridge; stops = u.stops },
  )
  unreached_from (inr u) = (
    u.r.prefetchable,
    inr record { r = u.r; needs = u.needs; kind = refl },
    record { bridges = u.bridges; root = u.root; is_root = u.is_root; leads = u.leads; sent = u.sent; b = u.b; on_the_way = u.on_the_way; named_bridge = u.named_bridge; stops = u.stops },
  )

  unreached_to : (p : Bool) → IsNeeded told s slot register space a p → IsStopped given roots s slot.bus space p a bridge → IsUnreached told given roots s (named_region slot register) (address_in space a) bridge
  unreached_to p (inl bar) stop = inl record {
    f = bar.f;
    part = bar.part;
    listed = bar.listed;
    named = bar.named;
    no_window = bar.no_window;
    claims = bar.claims;
    bridges = stop.bridges;
    root = stop.root;
    is_root = stop.is_root;
    leads = stop.leads;
    sent = stop.sent;
    b = stop.b;
    on_the_way = stop.on_the_way;
    named_bridge = stop.named_bridge;
    stops = subst (λ q. passes given space q a stop.b ≡ false) (sym bar.kind) stop.stops;
  }
  unreached_to p (inr range) stop = inr record {
    r = range.r;
    needs = range.needs;
    bridges = stop.bridges;
    root = stop.root;
    is_root = stop.is_root;
    leads = stop.leads;
    sent = stop.sent;
    b = stop.b;
    on_the_way = stop.on_the_way;
    named_bridge = stop.named_bridge;
    stops = subst (λ q. passes given space q a stop.b ≡ false) (sym range.kind) stop.stops;
  }

-- ---- in a system

module _ (given : Given) (t : Tree) (n : Needed) (records : List Record) (same : map record_value records ≡ t.records) (rise : RiseBySlot records)
    (nested : (s : System) → HasRecords s t.records → IsNested t.roots s) (path : List Slot) (root : ℕ)
    (paths : (s : System) → HasTree t s → IsPathTo t.roots s path n.name.slot.bus) (is_root : IsRootOfPath path n.name.slot.bus root) where
  abbrev space : Space
  space = space_of n.space

  abbrev kind : WindowKind
  kind = kind_in space n.prefetch

  abbrev IsLineAt : Told → System → Space → ℕ → Slot → Type 0
  IsLineAt told s sp a bridge = IsUnreached told given t.roots s (named_region n.name.slot n.name.register) (address_in sp a) bridge

  module _ (told : Told) (s : System) (tree : HasTree t s) (one : IsOneOf (IsNeeded told) s n) where
    abbrev way : IsPathTo t.roots s path n.name.slot.bus
    way = paths s tree

    has : Has s records
    has = subst (λ (rs : List decoded.Record). HasRecords s rs) (sym same) tree.records

    long : length path ≡ length way.bridges
    long = ap length (sym way.named) ∙ length-map way.bridges (λ (b : Function). b.slot)

    slot_is : (b : Function) (at : Contains way.bridges b) (d : Slot) → get_or path at.0 d ≡ b.slot
    slot_is b at d = ap (λ xs. get_or xs at.0 d) (sym way.named) ∙ get_or-map (λ (f : Function). f.slot) way.bridges at.0 b d at.1 ∙ ap (λ (f : Function). f.slot) at.2

    listed : (b : Function) → Contains way.bridges b → Contains s b × (is_bridge b ≡ true)
    listed b at = subst (λ (x : Function). Contains s x × (is_bridge x ≡ true)) at.2 (way_at s way.root way.bridges n.name.slot.bus at.0 b way.leads at.1)

    pass_of : (b : Function) → Contains way.bridges b → (a : ℕ) → PassesAt given kind records a b.slot → passes given space n.prefetch a b ≡ true
    pass_of b at a pass =
        let is = listed b at in
        sym (passes_kind given space n.prefetch a b) ∙ (bridge_at given kind s records has rise b a is.0 is.1).0 pass

    pass_at : (b : Function) → Contains way.bridges b → (a : ℕ) → passes given space n.prefetch a b ≡ true → PassesAt given kind records a b.slot
    pass_at b at a pass =
        let is = listed b at in
        (bridge_at given kind s records has rise b a is.0 is.1).1 (passes_kind given space n.prefetch a b ∙ pass)

    to_kind : (a : ℕ) → IsSent given space root a → IsSent given (window_space kind) root a
    to_kind a sent = subst (λ (x : Space). IsSent given x root a) (sym (kind_space space n.prefetch)) sent

    -- what stops an address of the region
    record StopsIt (a : ℕ) (other : Slot) : Type 0 where
      b : Function
      named : b.slot ≡ other
      on_the_way : Contains way.bridges b
      held : Holds n.range a
      sent : IsSent given space root a
      stops : passes given space n.prefetch a b ≡ false

    stopped : (sp : Space) (a : ℕ) (other : Slot) → IsLineAt told s sp a other → StopsIt a other
    stopped sp a other u =
        let (p, needs, stop) = unreached_from told given t.roots s n.name.slot n.name.register sp a other u in
        let (space_is, held, kind_is) = one.only sp a p needs in
        let only : (stop.root ≡ way.root) × (stop.bridges ≡ way.bridges) = way.only stop.root stop.bridges stop.is_root stop.leads in
        record {
          b = stop.b;
          named = stop.named_bridge;
          on_the_way = subst (λ (w : List Function). Contains w stop.b) only.1 stop.on_the_way;
          held = held;
          sent = (one.addresses a held, subst (λ (x : Space). starts given x root a ≡ true) space_is (subst (λ k. starts given sp k a ≡ true) (only.0 ∙ root_is given t n path root paths is_root s tree) stop.sent));
          stops = subst (λ q. passes given space q a stop.b ≡ false) kind_is (subst (λ (x : Space). passes given x p a stop.b ≡ false) space_is stop.stops);
        }

    not_stopped : (a : ℕ) (other : Slot) (stop : StopsIt a other) → PassesSent given kind records root n.range stop.b.slot → ⊥
    not_stopped a other stop all =
        both_ways _ stop.stops (pass_of stop.b stop.on_the_way a (all a stop.held (to_kind a stop.sent)))

    module _ (bridge : Slot) (address : ℕ) (is : IsFirstBridgeThatStops (IsSent given (window_space kind) root) (PassesAt given kind records) n.range path bridge address) where
      abbrev any_bridge : Function
      any_bridge = record { slot = n.name.slot; image = []; probe = [] }

      within : is.place < length way.bridges
      within = let m = long in let less = is.within in omega (arith, m, less)

      abbrev here : Function
      here = get_or way.bridges is.place any_bridge

      at : Contains way.bridges here
      at = (is.place, within, get_or_default way.bridges is.place (get_or way.bridges is.place any_bridge) any_bridge within)

      named : here.slot ≡ bridge
      unfolding at
      named = sym (slot_is here at n.name.slot) ∙ is.at n.name.slot

      sent : IsSent given space root address
      sent = subst (λ (x : Space). IsSent given x root address) (kind_space space n.prefetch) is.sent

      there : IsLineAt told s space address bridge
      there = unreached_to told given t.roots s n.name.slot n.name.register space address bridge n.prefetch (one.each address is.held) record {
        bridges = way.bridges;
        root = way.root;
        is_root = way.starts;
        leads = way.leads;
        sent = subst (λ k. starts given space k address ≡ true) (sym (root_is given t n path root paths is_root s tree)) sent.1;
        b = here;
        on_the_way = at;
        named_bridge = named;
        stops = false_from_ne_true _ (λ pass. is.stopped (subst (λ (x : Slot). PassesAt given kind records address x) named (pass_at here at address pass)));
      }

      not_before : (a : ℕ) (other : Slot) → StopsIt a other → (slot_number bridge < slot_number other) ⊎ ((bridge ≡ other) × (address ≤ a))
      unfolding at
      not_before a other stop = elim (cases_order stop.on_the_way.0 is.place) [
        | inl now ↦
            let one_b : stop.b ≡ get_or way.bridges is.place any_bridge = sym stop.on_the_way.2 ∙ ap (λ k. get_or way.bridges k stop.b) now ∙ get_or_default way.bridges is.place stop.b any_bridge within in
            let slots : bridge ≡ stop.b.slot = sym named ∙ ap (λ (x : Function). x.slot) (sym one_b) in
            inr (
              slots ∙ stop.named,
              elim (cases_lt a address) [
                | inl less ↦ absurd (both_ways _ stop.stops (pass_of stop.b stop.on_the_way a (subst (λ (x : Slot). PassesAt given kind records a x) slots
                    (is.least a less stop.held (to_kind a stop.sent)))))
                | inr ge ↦ ge
              ],
            )
        | inr (inl before) ↦
            let m : length (take is.place path) ≡ is.place = length-take-le is.place path (let less = is.within in omega (arith, less)) in
            absurd (not_stopped a other stop (subst (PassesSent given kind records root n.range) (get_or-take is.place path stop.on_the_way.0 n.name.slot before ∙ slot_is stop.b stop.on_the_way n.name.slot)
            (is.before stop.on_the_way.0 n.name.slot (omega (arith, m, before)))))
        | inr (inr after) ↦
            let up = later_is_higher t.roots s (nested s tree.records) way.root way.bridges n.name.slot.bus way.leads here stop.b at stop.on_the_way after in
            let low = slot_of s tree.system here (listed here at).0 in
            let high = slot_of s tree.system stop.b (listed stop.b stop.on_the_way).0 in
            let less : slot_number here.slot < slot_number stop.b.slot = omega (arith, up, low, high) in
            inl (subst (λ (x : Slot). slot_number bridge < slot_number x) stop.named (subst (λ (x : Slot). slot_number x < slot_number stop.b.slot) named less))
      ]

  pub never_unreached : All (PassesSent given kind records root n.range) path → IsNeverUnreached given t n
  never_unreached all told s tree listed one sp a other u =
      let stop : StopsIt told s tree one a other = stopped told s tree one sp a other u in
      let m = long told s tree one in
      let inside = stop.on_the_way.1 in
      not_stopped told s tree one a other stop (subst (PassesSent given kind records root n.range) (slot_is told s tree one stop.b stop.on_the_way n.name.slot)
      (all stop.on_the_way.0 n.name.slot (omega (arith, m, inside))))

  pub unreached_line : (bridge : Slot) (address : ℕ) → IsFirstBridgeThatStops (IsSent given (window_space kind) root) (PassesAt given kind records) n.range path bridge address → IsUnreachedLine given t n address bridge
  unreached_line bridge address is told s tree listed one = record {
    there = there told s tree one bridge address is;
    first = λ sp a other u. not_before told s tree one bridge address is a other (stopped told s tree one sp a other u);
  }
