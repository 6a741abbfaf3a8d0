-- The settled dump, block by block.
use Rattle.std.proofs.Common.{◌≡◌, ℕ, ◌+◌, ◌<◌, List, [], ◌∷◌, ◌++◌, Bool, true, false, ◌&&◌, map, length, get_or, arith, refl, sym, ◌∙◌, ap, subst, Option, None, Some}
use Rattle.std.specs.Option.{is_some, option_map}
use Rattle.std.specs.List.{AllZip, slice_get}
use Rattle.std.proofs.lemmas.List.{get_or_default}
use Rattle.std.proofs.lemmas.List.Elements.{All-contains}
use Rattle.pci_spec.specs.Slot.{Slot}
use Rattle.pci_spec.specs.Text.{Block}
use Rattle.pci_spec.specs.System.{System, Function, Space, Io, Memory, Window, IsFunction, IsSystem, function_of, is_bridge}
use Rattle.pci_spec.specs.Bus.{secondary, IsNested}
use Rattle.pci_spec.specs.Decoded.{HasRecords}
use Rattle.pci_spec.specs.Decoded as decoded
use Rattle.pci_spec.proofs.Pairing.{same_length}
use Rattle.settle_spec.specs.Lists.{Request}
use Rattle.settle_spec.specs.Parts.{addresses}
use Rattle.settle_spec.specs.Stands.{window_part}
use Rattle.settle_spec.specs.LiveLaws.{has_live_behind, is_live}
use Rattle.settle_spec.specs.Kept.{Kept as Keeping, range_or}
use Rattle.settle_spec.specs.Keeping.Registers.{settled_function}
use Rattle.settle_laws.proofs.Standing.{stands_by_itself}
use Rattle.pci_base.specs.declared.range.Range.{Range}
use Rattle.pci_base.specs.declared.window_kind.ByKind.{ByKind}
use Rattle.pci_base.specs.Ranges.{decoded_range_of}
use Rattle.pci_function.specs.declared.record.Bridge.{Bridge}
use Rattle.pci_function.specs.declared.record.Record.{Record}
use Rattle.pci_function.specs.Values.{record_value}
use Rattle.pci_tree.specs.Admission.{Admission, IsAdmitted}
use Rattle.pci_tree.proofs.Lifting.{same_bridge}
use Rattle.pci_tree.proofs.RegionParts.{same_bridge_of}
use Rattle.pci_place.specs.declared.above.Above.{Above}
use Rattle.pci_place.specs.Above.{IsAbove, AreAboves, system_in}
use Rattle.pci_place.specs.Records.{IsRecordInSystem}
use Rattle.pci_first_fit.specs.declared.own.Terms.{Terms}
use Rattle.pci_first_fit.specs.Slots.{Demand, demand_of}
use Rattle.pci_first_fit.specs.Own.{AreTerms}
use Rattle.pci_settle_places.specs.declared.places.Places.{Places}
use Rattle.pci_settle_places.specs.Places.{place_range_in}
use Rattle.pci_settle_places.specs.Images.{HasPlacesAndWindows}
use Rattle.pci_settle_places.specs.declared.answering.Answering.{Answering}
use Rattle.pci_settle_places.specs.Answers.{AreFlagsOfTold}
use Rattle.pci_settle_places.specs.Live.{IsRequestOf, HasAllPlaces, AreLiveBuses, is_live_on, is_live_behind}
use Rattle.pci_settle_places.specs.declared.settled.Behind.{Behind}
use Rattle.pci_settle_places.specs.Settled.{IsCommandTold}
use Rattle.pci_plan.proofs.PlannedDumps.{ArePlanned, next_planned, function_here}
use Rattle.pci_first_fit.specs.declared.kept.Kept.{Kept}
use Rattle.pci_first_fit.specs.Kept.{kept_of}
use Rattle.pci_first_fit.specs.Tables.{untold}
use Rattle.pci_first_fit.specs.Keeping.{told_of_kind}
use Rattle.pci_settle.specs.declared.tables.Tables.{Tables}
use Rattle.pci_settle.specs.Requests.{IsAskedOf}
use Rattle.pci_settle.specs.Told.{TellsKeeping}
use Rattle.pci_settle.specs.Wished.{TellsWishes}
use Rattle.pci_settle.proofs.StagedWrites.{kept_window}

-- ---- what is asked for

pub request_by : (q : Request) (s : System) (roots : List ℕ) (l : Demand) (a : Answering) → IsAskedOf q roots l → AreTerms l a.terms → l.told.ranges ≡ a.told.ranges.now → AreFlagsOfTold q s a.standing.now → IsRequestOf q s roots a
request_by q s roots l a asked terms told flags = record {
  rooted = asked.roots_are;
  terms = subst (λ x. AreTerms x a.terms) (sym asked.demands_are) terms;
  told = ap (λ (x : Demand). x.told.ranges) asked.demands_are ∙ told;
  flags = flags;
}

-- ---- what is told of a function

module _ (roots : List ℕ) (s : System) (system : IsSystem s) (nested : IsNested roots s) (q : Request) (keep : Keeping) (t : Answering) (table : List Places) (of : IsRequestOf q s roots t) (placed : HasAllPlaces q s keep table) where
  -- the table of buses with live functions says whether the bus behind a bridge is one
  behind_now : (space : Space) (live : List Bool) → AreLiveBuses roots s space t table live → (f : Function) (r : Record) → IsRecordInSystem s f r → is_live_behind live r.bridge ≡ has_live_behind s (is_live q s keep space) f
  behind_now space live has f r is = by r.bridge refl
    where
      by : (o : Option Bridge) → r.bridge ≡ o → is_live_behind live o ≡ has_live_behind s (is_live q s keep space) f
      by None e =
          let off : is_bridge f ≡ false = sym (same_bridge r f is.value) ∙ ap is_some e in
          sym (ap (λ b. b && is_live_on q s keep space (secondary f)) off)
      by (Some b) e =
          let bridge : is_bridge f ≡ true = sym (same_bridge r f is.value) ∙ ap is_some e in
          let to : b.secondary ≡ secondary f = ap (λ (x : decoded.Bridge). x.secondary) (same_bridge_of r f b is.value e) in
          let small = (All-contains IsFunction s f system.each is.listed).image.bytes 0x19 in
          ap (λ n. get_or live n false) to ∙ has q keep (secondary f) of placed small
          ∙ sym (ap (λ x. x && is_live_on q s keep space (secondary f)) bridge)

  nested_for : IsNested q.roots s
  nested_for = subst (λ xs. IsNested xs s) (sym of.rooted) nested

  -- the places of a function are right, and the windows that stay, to what they grow, and what is wished of them
  pub placed_here : (grown wished : List (ByKind (Option Range))) (staying : List Kept) → TellsKeeping q s keep grown staying → TellsWishes s keep wished → (k : ℕ) (f : Function) (r : Record) → slice_get s k ≡ Some f → IsRecordInSystem s f r
      → (d p : Places) → p ≡ get_or table k d → (n h : Kept) → h ≡ get_or staying k n → (g w : ByKind (Option Range)) → g ≡ get_or grown k untold → w ≡ get_or wished k untold → HasPlacesAndWindows q s keep f r p h.windows g w
  placed_here grown wished staying tells wishes k f r at is d p p_is n h h_is g w g_is w_is = record {
    places = record {
      system = system;
      nested = nested_for;
      is = is;
      each = λ part there. ap (λ x. place_range_in x part) p_is ∙ placed.each k f d part at there;
    };
    windows = λ c there. kept_window h c ∙ ap (λ x. kept_of x (Window c)) h_is ∙ tells.stays_are.each k f n (Window c) at there;
    opened = λ c there stays. (stands_by_itself q s nested_for).only (window_part c f) is.listed (tells.standing (window_part c f) stays);
    ranges = λ c there stays.
        tells.ranges_are k f (Window c) at there stays
        ∙ ap (λ x. range_or (option_map decoded_range_of (told_of_kind x c)) (addresses (window_part c f))) (sym g_is);
    wishes = λ c. wishes.each k f c at ∙ ap (λ x. option_map decoded_range_of (told_of_kind x c)) (sym w_is);
    others = λ part there other. wishes.others f part is.listed there other;
  }

  -- and so is what tells its Command
  pub told_here : (terms : Terms) → t.terms ≡ terms → (io memory : List Bool) → AreLiveBuses roots s Io t table io → AreLiveBuses roots s Memory t table memory → (aboves : List Above) → AreAboves s aboves
      → (f : Function) (r : Record) → IsRecordInSystem s f r → (bus : ℕ) → bus ≡ f.slot.bus → (none : Above) (here : Behind) → here.io ≡ is_live_behind io r.bridge → here.memory ≡ is_live_behind memory r.bridge
      → IsCommandTold q s keep f (get_or aboves bus none) terms here
  told_here terms same io memory io_is memory_is aboves are f r is bus on_bus none here here_io_is here_memory_is = record {
    over = subst (λ n. IsAbove s f.slot.bus (get_or aboves n none)) (sym on_bus) (are f none is.listed);
    terms = subst (AreTerms (demand_of q)) same of.terms;
    io = here_io_is ∙ behind_now Io io io_is f r is;
    memory = here_memory_is ∙ behind_now Memory memory memory_is f r is;
  }

-- ---- block by block

-- what is asked for, with the told ranges that stand, the places that parts get, what stays and what is wished by these tables
pub record IsAskedBy (q : Request) (keep : Keeping) (roots : List ℕ) (s : System) (l : Demand) (tables : Tables) (wished : List (ByKind (Option Range))) : Type 0 where
  pub asked : IsAskedOf q roots l
  pub stand : AreFlagsOfTold q s tables.standing.now
  pub places : HasAllPlaces q s keep tables.places.now
  pub tells : TellsKeeping q s keep tables.grown.now tables.staying.now
  pub wishes : TellsWishes s keep wished

-- a function is as it is to be, whatever is asked for
abbrev pub IsSettledOf : List ℕ → System → Demand → Tables → List (ByKind (Option Range)) → Function → Function → Type 0
IsSettledOf roots s l tables wished f g = (q : Request) (keep : Keeping) → IsAskedBy q keep roots s l tables wished → g ≡ settled_function q s keep f

-- the function of a block, with its record and its read backs
pub record IsHere (a : Admission) (k : ℕ) (b : Block) (r : Record) : Type 0 where
  pub probe : Block
  pub beside : probe ≡ get_or a.probe k probe
  pub at : slice_get (system_in a) k ≡ Some (function_of b probe)
  pub is : IsRecordInSystem (system_in a) (function_of b probe) r

pub block_here : (a : Admission) (records : List Record) → IsAdmitted a → HasRecords (system_in a) (map record_value records) → (k : ℕ) (b : Block) (r : Record) → k < length a.dump → b ≡ get_or a.dump k b → r ≡ get_or records k r → IsHere a k b r
block_here a records is has k b r inside b_at r_at =
    let probe : Block = get_or a.probe k b in
    let count = same_length a.dump a.probe is.slots in
    let beside : probe ≡ get_or a.probe k probe = get_or_default a.probe k b probe (omega (arith, count, inside)) in
    let both = function_here a.dump a.probe records k b probe r is.slots has inside b_at beside r_at in
    record { probe = probe; beside = beside; at = both.0; is = both.1 }

abbrev made : Slot → List ℕ → List ℕ → Function
made slot image probe = record { slot = slot; image = image; probe = probe }

module _ (a : Admission) (is : IsAdmitted a) (l : Demand) (tables : Tables) (wished : List (ByKind (Option Range))) where
  abbrev P : Function → Function → Type 0
  P f g = IsSettledOf a.roots (system_in a) l tables wished f g

  pub next_settled : (k : ℕ) (found : List Block) → ArePlanned P a.dump a.probe k found → (b new : Block) (r : Record) (here : IsHere a k b r) → k < length a.dump → b ≡ get_or a.dump k b
      → new.slot ≡ b.slot → new.title ≡ b.title → ((q : Request) (keep : Keeping) → IsAskedBy q keep a.roots (system_in a) l tables wished → new.image ≡ (settled_function q (system_in a) keep (function_of b here.probe)).image) → ArePlanned P a.dump a.probe (k + 1) (found ++ new ∷ [])
  next_settled k found so_far b new r here inside b_at slot title image =
      let p = here.probe in
      let planned : P (function_of b p) (function_of new p) = λ q keep asked. ap (λ (x : Slot). made x new.image p.image) slot ∙ ap (λ (x : List ℕ). made b.slot x p.image) (image q keep asked) in
      next_planned P a.dump a.probe is.slots k found so_far new b p inside b_at here.beside slot title planned

-- once all are there, they and the probe are the settled system
module _ (roots : List ℕ) (s : System) (l : Demand) (tables : Tables) (wished : List (ByKind (Option Range))) (q : Request) (keep : Keeping) (asked : IsAskedBy q keep roots s l tables wished) where
  pub all_settled : (xs ys : List Function) → AllZip (IsSettledOf roots s l tables wished) xs ys → ys ≡ map (settled_function q s keep) xs
  all_settled [] [] all = refl
  all_settled [] (y ∷ ys) all = absurd all
  all_settled (x ∷ xs) [] all = absurd all
  all_settled (x ∷ xs) (y ∷ ys) all = ap (λ z. z ∷ ys) (all.0 q keep asked) ∙ ap (λ zs. settled_function q s keep x ∷ zs) (all_settled xs ys all.1)
