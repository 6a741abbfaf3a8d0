-- What is so among records is so in each system that has them.
use Rattle.std.proofs.Common.{◌≡◌, ℕ, ◌<◌, List, [], ◌∷◌, length, get_or, map, refl, Bool, true, false, inl, inr, arith, sym, ◌∙◌, ap, subst, Option, Some, None, if◌then◌else◌}
use Rattle.std.specs.Prelude.{◌↔◌, IsTrue, ◌==◌}
use Rattle.std.specs.Option.{is_some, option_map}
use Rattle.std.specs.List.{Contains, AllPairs, list_all}
use Rattle.std.proofs.Math.ListN.{get_or-map}
use Rattle.std.proofs.lemmas.Bool.{and_from, and_parts, cases_order}
use Rattle.std.proofs.lemmas.List.{get_or_default, length-map}
use Rattle.std.proofs.lemmas.List.Elements.{All-contains}
use Rattle.pci_spec.specs.Slot.{Slot, slot_number}
use Rattle.pci_spec.specs.Header.{layout, secondary_bus}
use Rattle.pci_spec.specs.Window.{WindowKind}
use Rattle.pci_spec.specs.System.{System, Function, is_bridge, passes, window_space, IsPassedTo, Gets}
use Rattle.pci_spec.specs.System as system
use Rattle.pci_spec.specs.Decoded.{HasRecords, IsDecodable, record_of, bridge_of}
use Rattle.pci_spec.specs.Decoded as decoded
use Rattle.pci_spec.proofs.Members.{IsMade, in_map_to, in_map_from, pairs_map}
use Rattle.pci_function.specs.declared.record.Record.{Record}
use Rattle.pci_function.specs.declared.record.Bridge.{Bridge}
use Rattle.pci_function.specs.Values.{record_value, bridge_value}
use Rattle.pci_base.specs.Space.{is_prefetch}
use Rattle.pci_tree.specs.Passes.{record_passes}
use Rattle.pci_tree.specs.Ways.{secondary_in, bus_behind, Leads, IsTheWay, AreSlotsOfWay, slots_of}
use Rattle.pci_tree.specs.Reaches.{PassAll, GetsTo}
use Rattle.pci_tree.specs.Outline.{RiseBySlot, IsPathTo}
use Rattle.pci_tree.proofs.Recorded.{passes-record}

-- the system has these records
abbrev pub Has : System → List Record → Type 0
Has s rs = HasRecords s (map record_value rs)

-- ---- a function and its record

-- a record of the list is that of the function
pub record StandsFor (rs : List Record) (f : Function) (r : Record) : Type 0 where
  pub has : Contains rs r
  pub same : record_value r ≡ record_of f

pub record_for : (s : System) (rs : List Record) (f : Function) → Has s rs → Contains s f → (r : Record) × StandsFor rs f r
record_for s rs f is has =
    let made : IsMade record_value rs (record_of f) = in_map_to record_value rs (record_of f) (subst (λ xs. Contains xs (record_of f)) is.same (in_map_from record_of s f has)) in
    (made.from, record { has = made.has; same = made.is })

pub function_for : (s : System) (rs : List Record) (r : Record) → Has s rs → Contains rs r → (f : Function) × Contains s f × (record_value r ≡ record_of f)
function_for s rs r is has =
    let made : IsMade record_of s (record_value r) = in_map_to record_of s (record_value r) (subst (λ xs. Contains xs (record_value r)) (sym is.same) (in_map_from record_value rs r has)) in
    (made.from, made.has, sym made.is)

some_of_map : (o : Option Bridge) → is_some (option_map bridge_value o) ≡ is_some o
some_of_map None = refl
some_of_map (Some b) = refl

secondary_of : Option decoded.Bridge → ℕ
secondary_of None = 0
secondary_of (Some b) = b.secondary

secondary_of_map : (o : Option Bridge) → secondary_of (option_map bridge_value o) ≡ secondary_in o
unfolding secondary_of
secondary_of_map None = refl
secondary_of_map (Some b) = refl

some_if : (b : Bool) (x : decoded.Bridge) → is_some (if b then Some x else None) ≡ b
some_if true x = refl
some_if false x = refl

secondary_if : (b : Bool) (x : decoded.Bridge) → b ≡ true → secondary_of (if b then Some x else None) ≡ x.secondary
unfolding secondary_of
secondary_if true x e = refl
secondary_if false x e = cc

-- the record is of a bridge where the function is one, and leads to the same bus
pub same_bridge : (r : Record) (f : Function) → record_value r ≡ record_of f → is_some r.bridge ≡ is_bridge f
same_bridge r f e = sym (some_of_map r.bridge) ∙ ap (λ (x : decoded.Record). is_some x.bridge) e ∙ some_if (layout f.image == 1) (bridge_of f.image f.probe)

pub same_secondary : (r : Record) (f : Function) → record_value r ≡ record_of f → is_bridge f ≡ true → bus_behind r ≡ secondary_bus f.image
same_secondary r f e is = sym (secondary_of_map r.bridge) ∙ ap (λ (x : decoded.Record). secondary_of x.bridge) e ∙ secondary_if (layout f.image == 1) (bridge_of f.image f.probe) is

pub same_slot_of : (r : Record) (f : Function) → record_value r ≡ record_of f → r.slot ≡ f.slot
same_slot_of r f e = ap (λ (x : decoded.Record). x.slot) e

-- ---- ways

-- a way of records, by the functions that they are of
abbrev SameRecords : List Record → List Function → Type 0
SameRecords way fs = map record_value way ≡ map record_of fs

pub record IsWayIn (s : System) (from : ℕ) (way : List Record) (to : ℕ) : Type 0 where
  pub fs : List Function
  pub leads : system.Leads s from fs to
  pub same : SameRecords way fs

pub way_up : (s : System) (rs : List Record) (from to : ℕ) (way : List Record) → Has s rs → Leads rs from way to → IsWayIn s from way to
way_up s rs from to [] is leads = record { fs = []; leads = leads; same = refl }
way_up s rs from to (b ∷ way) is (bridge, on, rest) =
    let p : (f : Function) × Contains s f × (record_value b ≡ record_of f) = function_for s rs b is bridge.has in
    let yes_bridge : is_bridge p.0 ≡ true = sym (same_bridge b p.0 p.2) ∙ bridge.is in
    let q : IsWayIn s (bus_behind b) way to = way_up s rs (bus_behind b) to way is rest in
    record {
      fs = p.0 ∷ q.fs;
      leads = (p.1, yes_bridge, ap (λ (x : Slot). x.bus) (sym (same_slot_of b p.0 p.2)) ∙ on, subst (λ n. system.Leads s n q.fs to) (same_secondary b p.0 p.2 yes_bridge) q.leads);
      same = (let head : record_value b ≡ record_of p.0 = p.2 in let tail : map record_value way ≡ map record_of q.fs = q.same in cc);
    }

pub record IsWayOfRecords (rs : List Record) (from : ℕ) (fs : List Function) (to : ℕ) : Type 0 where
  pub way : List Record
  pub leads : Leads rs from way to
  pub same : SameRecords way fs

pub way_down : (s : System) (rs : List Record) (from to : ℕ) (fs : List Function) → Has s rs → system.Leads s from fs to → IsWayOfRecords rs from fs to
way_down s rs from to [] is leads = record { way = []; leads = leads; same = refl }
way_down s rs from to (f ∷ fs) is (has, bridge, on, rest) =
    let p : (r : Record) × StandsFor rs f r = record_for s rs f is has in
    let e : record_value p.0 ≡ record_of f = p.1.same in
    let q : IsWayOfRecords rs (secondary_bus f.image) fs to = way_down s rs (secondary_bus f.image) to fs is rest in
    record {
      way = p.0 ∷ q.way;
      leads = (
        record { has = p.1.has; is = same_bridge p.0 f e ∙ bridge },
        ap (λ (x : Slot). x.bus) (same_slot_of p.0 f e) ∙ on,
        subst (λ n. Leads rs n q.way to) (sym (same_secondary p.0 f e bridge)) q.leads,
      );
      same = (let tail : map record_value q.way ≡ map record_of fs = q.same in cc);
    }

-- ---- one function a slot

-- an order of what a function makes of elements is one of the elements
pub pairs_unmap : {X Y : Type 0} (R : Y → Y → Type 0) (f : X → Y) (xs : List X) → AllPairs R (map f xs) → AllPairs (λ x y. R (f x) (f y)) xs
pairs_unmap R f xs pairs i j d lt within =
    subst (λ y. R y (f (get_or xs j d))) (get_or-map f xs i d)
    (subst (λ y. R (get_or (map f xs) i (f d)) y) (get_or-map f xs j d) (pairs i j (f d) lt (let e : length (map f xs) ≡ length xs = length-map xs f in omega arith)))

abbrev RiseAsDecoded : decoded.Record → decoded.Record → Type 0
RiseAsDecoded x y = slot_number x.slot < slot_number y.slot

pub functions_rise : (s : System) (rs : List Record) → Has s rs → RiseBySlot rs → AllPairs (λ (f g : Function). slot_number f.slot < slot_number g.slot) s
functions_rise s rs is rise = pairs_unmap RiseAsDecoded record_of s (subst (AllPairs RiseAsDecoded) (sym is.same) (pairs_map RiseAsDecoded record_value rs rise))

-- of two elements with one number, in a list whose numbers rise, there is one
pub one_by_number : {X : Type 0} (n : X → ℕ) (xs : List X) (x y : X) → AllPairs (λ v w. n v < n w) xs → Contains xs x → Contains xs y → n x ≡ n y → x ≡ y
one_by_number n xs x y rise (j, jin, jat) (k, kin, kat) e =
    let ky : get_or xs k x ≡ y = get_or_default xs k x y kin ∙ kat in
    elim (cases_order j k) [
      | inl same ↦ sym jat ∙ ap (λ i. get_or xs i x) same ∙ ky
      | inr differ ↦ elim differ [
        | inl lt ↦ (let less : n (get_or xs j x) < n (get_or xs k x) = rise j k x lt kin in
            let a : n (get_or xs j x) ≡ n x = ap n jat in
            let b : n (get_or xs k x) ≡ n y = ap n ky in absurd (omega arith))
        | inr gt ↦ (let less : n (get_or xs k x) < n (get_or xs j x) = rise k j x gt jin in
            let a : n (get_or xs j x) ≡ n x = ap n jat in
            let b : n (get_or xs k x) ≡ n y = ap n ky in absurd (omega arith))
      ]
    ]

pub one_function : (s : System) (rs : List Record) (f g : Function) → Has s rs → RiseBySlot rs → Contains s f → Contains s g → f.slot ≡ g.slot → f ≡ g
one_function s rs f g is rise hf hg e = one_by_number (λ (h : Function). slot_number h.slot) s f g (functions_rise s rs is rise) hf hg (ap slot_number e)

same_functions : (s : System) (rs : List Record) (from other to last : ℕ) (fs gs : List Function) → Has s rs → RiseBySlot rs → system.Leads s from fs to → system.Leads s other gs last
    → map record_of fs ≡ map record_of gs → fs ≡ gs
same_functions s rs from other to last [] [] is rise hf hg e = refl
same_functions s rs from other to last [] (g ∷ gs) is rise hf hg e = cc
same_functions s rs from other to last (f ∷ fs) [] is rise hf hg e = cc
same_functions s rs from other to last (f ∷ fs) (g ∷ gs) is rise (f_in, f_is, f_on, f_rest) (g_in, g_is, g_on, g_rest) e =
    let head : record_of f ≡ record_of g = cc in
    let tail : map record_of fs ≡ map record_of gs = cc in
    let one : f ≡ g = one_function s rs f g is rise f_in g_in (ap (λ (x : decoded.Record). x.slot) head) in
    let rest : fs ≡ gs = same_functions s rs (secondary_bus f.image) (secondary_bus g.image) to last fs gs is rise f_rest g_rest tail in
    cc

slots_map : (way : List Record) (fs : List Function) → SameRecords way fs → map (λ f. f.slot) fs ≡ slots_of way
slots_map [] [] e = refl
slots_map [] (f ∷ fs) e = cc
slots_map (r ∷ way) [] e = cc
slots_map (r ∷ way) (f ∷ fs) e =
    let head : record_value r ≡ record_of f = cc in
    let tail : map record_value way ≡ map record_of fs = cc in
    let slot : r.slot ≡ f.slot = same_slot_of r f head in
    let rest : map (λ (g : Function). g.slot) fs ≡ slots_of way = slots_map way fs tail in
    cc

-- the slots of the one way among records are those of the one way in each system that has them
pub path_of_way : (roots : List ℕ) (s : System) (rs : List Record) (slots : List Slot) (bus : ℕ) → Has s rs → RiseBySlot rs → AreSlotsOfWay rs roots slots bus → IsPathTo roots s slots bus
path_of_way roots s rs slots bus is rise ways =
    let the : IsTheWay rs roots ways.way bus = ways.the in
    let up : IsWayIn s the.root ways.way bus = way_up s rs the.root bus ways.way is the.leads in
    record {
      root = the.root;
      bridges = up.fs;
      starts = the.starts;
      leads = up.leads;
      named = slots_map ways.way up.fs up.same ∙ ways.named;
      only = λ other_root others starts leads. (
          let down : IsWayOfRecords rs other_root others bus = way_down s rs other_root bus others is leads in
          let only : (other_root ≡ the.root) × (down.way ≡ ways.way) = the.only other_root down.way starts down.leads in
          (only.0, same_functions s rs other_root the.root bus bus others up.fs is rise leads up.leads (sym down.same ∙ ap (λ w. map record_value w) only.1 ∙ up.same)));
    }

-- ---- who gets where

passes_same : (s : System) (rs : List Record) (kind : WindowKind) (a : ℕ) (r : Record) (f : Function) → Has s rs → Contains s f → is_bridge f ≡ true
    → record_value r ≡ record_of f → passes (window_space kind) (is_prefetch kind) a f ≡ record_passes kind a (record_value r)
passes_same s rs kind a r f is has bridge e =
    passes-record kind a f (All-contains IsDecodable s f is.decodable has) bridge ∙ ap (record_passes kind a) (sym e)

pass_up : (s : System) (rs : List Record) (kind : WindowKind) (a from to : ℕ) (way : List Record) (fs : List Function) → Has s rs → system.Leads s from fs to
    → SameRecords way fs → PassAll kind a way → IsTrue (list_all (passes (window_space kind) (is_prefetch kind) a) fs)
pass_up s rs kind a from to [] [] is leads e pass = refl
pass_up s rs kind a from to [] (f ∷ fs) is leads e pass = cc
pass_up s rs kind a from to (r ∷ way) [] is leads e pass = refl
pass_up s rs kind a from to (r ∷ way) (f ∷ fs) is (has, bridge, on, rest) e (here, later) =
    let head : record_value r ≡ record_of f = cc in
    let tail : map record_value way ≡ map record_of fs = cc in
    and_from (passes (window_space kind) (is_prefetch kind) a f) (list_all (passes (window_space kind) (is_prefetch kind) a) fs) (passes_same s rs kind a r f is has bridge head ∙ here)
    (pass_up s rs kind a (secondary_bus f.image) to way fs is rest tail later)

pass_down : (s : System) (rs : List Record) (kind : WindowKind) (a from to : ℕ) (way : List Record) (fs : List Function) → Has s rs → system.Leads s from fs to
    → SameRecords way fs → IsTrue (list_all (passes (window_space kind) (is_prefetch kind) a) fs) → PassAll kind a way
pass_down s rs kind a from to [] fs is leads e pass = tt {0}
pass_down s rs kind a from to (r ∷ way) [] is leads e pass = cc
pass_down s rs kind a from to (r ∷ way) (f ∷ fs) is (has, bridge, on, rest) e pass =
    let head : record_value r ≡ record_of f = cc in
    let tail : map record_value way ≡ map record_of fs = cc in
    let both : (passes (window_space kind) (is_prefetch kind) a f ≡ true) × (list_all (passes (window_space kind) (is_prefetch kind) a) fs ≡ true) = and_parts (passes (window_space kind) (is_prefetch kind) a f) (list_all (passes (window_space kind) (is_prefetch kind) a) fs) pass in
    (sym (passes_same s rs kind a r f is has bridge head) ∙ both.0, pass_down s rs kind a (secondary_bus f.image) to way fs is rest tail both.1)

-- an address is passed on to a bus by the records exactly where it is in each system that has them
pub gets-passed : (roots : List ℕ) (s : System) (rs : List Record) (kind : WindowKind) (a bus : ℕ) → Has s rs
    → GetsTo rs roots kind a bus ↔ IsPassedTo roots s (window_space kind) (is_prefetch kind) a bus
gets-passed roots s rs kind a bus is = (
  λ (h : GetsTo rs roots kind a bus). (
      let up : IsWayIn s h.root h.way bus = way_up s rs h.root bus h.way is h.leads in
      (h.root, h.starts, up.fs, up.leads, pass_up s rs kind a h.root bus h.way up.fs is up.leads up.same h.pass)),
  λ (h : IsPassedTo roots s (window_space kind) (is_prefetch kind) a bus). (
      let down : IsWayOfRecords rs h.0 h.2 bus = way_down s rs h.0 bus h.2 is h.3 in
      record { root = h.0; starts = h.1; way = down.way; leads = down.leads; pass = pass_down s rs kind a h.0 bus down.way h.2 is h.3 down.same h.4 }),
)
