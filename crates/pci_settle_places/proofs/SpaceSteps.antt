-- One step after another through a space, for whatever is asked for.
use Rattle.std.proofs.Common.{◌≡◌, ℕ, ◌+◌, ◌<◌, ◌≤◌, inl, inr, List, [], ◌∷◌, map, length, get_or, Bool, true, false, cond, arith, refl, sym, ◌∙◌, ap, subst, Option, None, Some}
use Rattle.std.specs.Option.{is_some, option_map, IfNone}
use Rattle.std.specs.List.{Contains, range_with_len}
use Rattle.std.proofs.Math.Path.{fun_ext}
use Rattle.std.proofs.lemmas.Bool.{both_ways, false≢true, true≢false}
use Rattle.std.proofs.lemmas.Option.{slice_get-get_or}
use Rattle.std.proofs.lemmas.List.{get_or_default}
use Rattle.std.proofs.lemmas.List.Elements.{All-contains}
use Rattle.pci_spec.specs.Decoded.{HasRecords}
use Rattle.pci_spec.specs.Decoded as decoded
use Rattle.pci_spec.specs.System.{System, Space, Part, Window, IsFunction, IsSystem, is_bridge}
use Rattle.pci_spec.specs.Bus.{secondary, is_root, IsNested}
use Rattle.pci_spec.proofs.BusRanges.{root_means}
use Rattle.pci_spec.proofs.Members.{in_head, in_filter_to, in_range_to}
use Rattle.settle_spec.specs.Lists.{Lists, Request}
use Rattle.settle_spec.specs.Items.{Placing, place_each}
use Rattle.settle_spec.specs.Places.{placed_of, first_lack}
use Rattle.settle_spec.specs.Kept.{Kept}
use Rattle.settle_spec.specs.Keeping.Places.{space_items, taken_at, placing_on}
use Rattle.settle_laws.proofs.Keeping.Buses.{placing_by_bus}
use Rattle.pci_base.specs.declared.range.Range.{Range}
use Rattle.pci_base.specs.declared.window_kind.ByKind.{ByKind}
use Rattle.pci_base.specs.Ranges.{decoded_range_of}
use Rattle.pci_image.specs.Windows.{window_of}
use Rattle.pci_function.specs.declared.record.Bridge.{Bridge}
use Rattle.pci_function.specs.declared.record.Record.{Record}
use Rattle.pci_function.specs.Values.{record_value}
use Rattle.pci_tree.specs.Passes as passes
use Rattle.pci_tree.specs.Roots.{set_in}
use Rattle.pci_tree.proofs.Lifting.{same_bridge}
use Rattle.pci_tree.proofs.RegionParts.{same_bridge_of}
use Rattle.pci_place.proofs.Records.{FunctionAt, function_at}
use Rattle.pci_first_fit.specs.declared.kept.Kept.{Kept as CodeKept}
use Rattle.pci_first_fit.specs.declared.own.Terms.{Terms}
use Rattle.pci_first_fit.specs.Kept.{kept_of, nothing_kept}
use Rattle.pci_first_fit.specs.Keeping.{told_of_kind}
use Rattle.pci_settle_places.specs.declared.candidate.Candidate.{Candidate}
use Rattle.pci_settle_places.specs.declared.candidate.SpaceWindows.{SpaceWindows}
use Rattle.pci_settle_places.specs.declared.staying.Staying.{Staying}
use Rattle.pci_settle_places.specs.declared.places.Places.{Places}
use Rattle.pci_settle_places.specs.Candidates.{candidate_value, HasSpaceWindows, HasWindowsIn, KnowsWindows, KnowsRequest, pass}
use Rattle.pci_settle_places.specs.Staying.{IsStaying, setting}
use Rattle.pci_settle_places.specs.Columns.{window_range_list}
use Rattle.pci_settle_places.specs.Windows.{unless_grown, window_range_at, plain_of, prefetch_of}
use Rattle.pci_settle_places.specs.BusPlaces.{AreToldEnding, place_beside, ArePlacesIn}
use Rattle.pci_settle_places.specs.Places.{place_range_in, NotesOf}
use Rattle.pci_settle_places.specs.Spaces.{HasWindowsOver, grown_by, windows_by, AreNotedFor, AreNotedOnRoots, AreNotedBehind, HasNoPlaceInSpace, KeepsOtherSpace, AreSpacePlaces, space_lack}
use Rattle.pci_settle_places.proofs.Buses.{behind_ending}
use Rattle.pci_settle_places.proofs.SpacePlaces.{window_lists_for, IsPlacedTo, placed_roots, placed_nowhere, placed_same, no_root, windows_over, placed_more, placed_all, others_kept, others_same, others_more, lack_same}

-- ---- roots

in_small : (flags : List Bool) (bus : ℕ) → Contains (set_in flags) bus → bus < 256
unfolding set_in
in_small flags bus listed =
    let low = (in_range_to 0 256 bus (in_filter_to (λ n. get_or flags n false) (range_with_len 0 256) bus listed).0).1 in
    omega (arith, low)

pub none_set : (flags : List Bool) → ((bus : ℕ) → bus < 256 → is_root (set_in flags) bus ≡ false) → set_in flags ≡ []
none_set flags off = by (set_in flags) refl
  where
    by : (xs : List ℕ) → set_in flags ≡ xs → set_in flags ≡ []
    by [] e = e
    by (x ∷ xs) e =
        let listed : Contains (set_in flags) x = subst (λ ys. Contains ys x) (sym e) (in_head x xs) in
        absurd (both_ways (is_root (set_in flags) x) (off x (in_small flags x listed)) ((root_means (set_in flags) x).1 listed))

-- ---- something that is asked for

pub known_of : (roots : List ℕ) (s : System) (space : Space) (l : Lists) (t : Terms) (st : Staying) (w : SpaceWindows) → KnowsRequest (setting roots s t st) l → HasWindowsIn (pass roots s space t st w) → KnowsWindows (pass roots s space t st w)
known_of roots s space l t st w known windows = record { request = known.request; keep = known.keep; stay = known.stay; has = windows known.request known.keep known.stay }

-- ---- on the roots

-- what is placed on one of the roots is noted
pub roots_noted : (roots : List ℕ) (s : System) (space : Space) (l : Lists) (t : Terms) (st : Staying) (w : SpaceWindows) (root : ℕ) → root < 256 → is_root roots root ≡ true → (old new : List Places) (lack : Option Candidate) (placing : Placing)
    → ((q : Request) (keep : Kept) → IsStaying q keep (setting roots s t st) → q.lists ≡ l → HasSpaceWindows q s space t w → placing ≡ placing_on q s keep space root) → NotesOf s (placed_of placing) old new → option_map (candidate_value s) lack ≡ first_lack placing None → AreNotedOnRoots (pass roots s space t st w) l old new lack
roots_noted roots s space l t st w root low is_one old new lack placing are noted lacking = inr (
  root,
  λ q keep stay same has. (
      let is = are q keep stay same has in
      record {
        small = low;
        on = subst (λ xs. is_root xs root ≡ true) (sym stay.left.rooted) is_one;
        noted = subst (λ p. NotesOf s (placed_of p) old new) is noted;
        lacking = lacking ∙ ap (λ p. first_lack p None) is;
      }),
)

-- ---- behind a bridge

-- what an index past the end is read as
no_places : Places
no_places = record { bars = []; rom = None; windows = record { io = None; memory = None; prefetchable = None } }

pub three_are : (a b c x y z : List Range) → a ≡ x → b ≡ y → c ≡ z → ◌≡◌ {A = List (List Range)} (a ∷ (b ∷ (c ∷ []))) (x ∷ (y ∷ (z ∷ [])))
three_are a b c x y z e f g = ap (λ u. u ∷ (b ∷ (c ∷ []))) e ∙ ap (λ u. x ∷ (u ∷ (c ∷ []))) f ∙ ap (λ u. x ∷ (y ∷ (u ∷ []))) g

pub behind_noted : (roots : List ℕ) (s : System) (space : Space) (t : Terms) (st : Staying) (w : SpaceWindows) (b : Bridge) → is_root roots b.secondary ≡ false → (k : ℕ) (old new : List Places) → k < length old → (e : Places)
    → (own : CodeKept) → ((part : Part) → kept_of own part ≡ kept_of (get_or st.left.kept.now k nothing_kept) part) → (grown : ByKind (Option Range)) → grown ≡ grown_by st k
    → (plain prefetch : Option Range) → option_map decoded_range_of plain ≡ plain_of space (window_range_at own grown b (get_or old k e)) → option_map decoded_range_of prefetch ≡ prefetch_of space (window_range_at own grown b (get_or old k e))
    → (lists : List (List Range)) → lists ≡ window_range_list plain ∷ (window_range_list plain ∷ (window_range_list prefetch ∷ []))
    → (placing : Placing) → ArePlacesIn (pass roots s space t st w) b.secondary lists grown placing → (IsSystem s → NotesOf s (placed_of placing) old new) → AreNotedBehind (pass roots s space t st w) k b old new
behind_noted roots s space t st w b off k old new within e own own_is grown grown_is plain prefetch plain_is prefetch_is lists lists_are placing are noted q keep placed d system stay has over =
    let p = get_or old k e in
    let windows = window_range_at own grown b p in
    let same : windows_by st old k d b ≡ windows =
    fun_ext (λ c. ap (λ x. window_range_at (get_or st.left.kept.now k nothing_kept) (grown_by st k) b x c) (get_or_default old k d e within)
    ∙ ap (λ x. window_range_at (get_or st.left.kept.now k nothing_kept) x b p c) (sym grown_is)
    ∙ ap (λ on. cond on (unless_grown (told_of_kind grown c) (passes.range_in (window_of b.windows c))) (option_map decoded_range_of (place_range_in p (Window c)))) (sym (own_is (Window c)))) in
    let places = st.left.places.now in
    let for = window_lists_for q s keep space placed b.secondary plain prefetch places grown windows (ap (λ rs. is_root rs b.secondary) stay.left.rooted ∙ off) plain_is prefetch_is
    (subst (λ x. HasWindowsOver q s keep space placed b.secondary places x windows) (sym grown_is) (subst (HasWindowsOver q s keep space placed b.secondary places (grown_by st k)) same over)) in
    subst (λ r. NotesOf s (placed_of r) old new) (subst (λ ls. ArePlacesIn (pass roots s space t st w) b.secondary ls grown placing) lists_are are q keep placed stay has for) (noted system)

-- ---- the table so far, whatever is asked for

pub record IsSpaceTo (roots : List ℕ) (s : System) (space : Space) (l : Lists) (t : Terms) (st : Staying) (w : SpaceWindows) (n : ℕ) (start table : List Places) : Type 0 where
  pub count : length table ≡ length s
  pub others : KeepsOtherSpace s space start table
  pub lacks : (q : Request) (keep : Kept) → IsStaying q keep (setting roots s t st) → q.lists ≡ l → HasSpaceWindows q s space t w → space_lack q s keep space q.roots ≡ None
  pub placed : (q : Request) (keep : Kept) → IsStaying q keep (setting roots s t st) → q.lists ≡ l → HasSpaceWindows q s space t w → IsPlacedTo q s keep space n table

module _ (roots : List ℕ) (s : System) (system : IsSystem s) (nested : IsNested roots s) (space : Space) (l : Lists) (t : Terms) (st : Staying) (w : SpaceWindows) (known : KnowsRequest (setting roots s t st) l) (windows : HasWindowsIn (pass roots s space t st w)) where
  nested_for : (q : Request) (keep : Kept) → IsStaying q keep (setting roots s t st) → IsNested q.roots s
  nested_for q keep stay = subst (λ xs. IsNested xs s) (sym stay.left.rooted) nested

  abbrev q1 : Request
  q1 = known.request

  abbrev k1 : Kept
  k1 = known.keep

  -- ---- the roots

  abbrev OnRoots : List Places → List Places → Option Candidate → ℕ → Type 0
  OnRoots old new lack root = (q : Request) (keep : Kept) → IsStaying q keep (setting roots s t st) → q.lists ≡ l → HasSpaceWindows q s space t w → AreNotedFor q keep (pass roots s space t st w) old new lack root

  pub roots_lack : (old new : List Places) (lack : Option Candidate) → AreNotedOnRoots (pass roots s space t st w) l old new lack → (q : Request) (keep : Kept) → IsStaying q keep (setting roots s t st) → q.lists ≡ l → HasSpaceWindows q s space t w
      → space_lack q s keep space q.roots ≡ option_map (candidate_value s) lack
  roots_lack old new lack (inl none) q keep stay same has =
      ap (space_lack q s keep space) (stay.left.rooted ∙ none.none) ∙ sym (ap (option_map (candidate_value s)) none.lacking)
  roots_lack old new lack (inr (root, are)) q keep stay same has =
      let noted = are q keep stay same has in
      lack_same q s keep space root noted.on q.roots refl ∙ sym noted.lacking

  pub roots_others : (old new : List Places) (lack : Option Candidate) → length new ≡ length old → AreNotedOnRoots (pass roots s space t st w) l old new lack → KeepsOtherSpace s space old new
  roots_others old new lack size (inl none) = subst (KeepsOtherSpace s space old) (sym none.same) (others_same s space old)
  roots_others old new lack size (inr (root, are)) =
      let noted = are q1 k1 known.stay known.lists (windows q1 k1 known.stay) in
      others_kept q1 s k1 system (nested_for q1 k1 known.stay) space root noted.small old new size noted.noted

  pub roots_placed : (old new : List Places) → length old ≡ length s → length new ≡ length old → HasNoPlaceInSpace s space old → AreNotedOnRoots (pass roots s space t st w) l old new None
      → IsSpaceTo roots s space l t st w 0 old new
  roots_placed old new count size none are = record {
    count = size ∙ count;
    others = roots_others old new None size are;
    lacks = λ q keep stay same has. roots_lack old new None are q keep stay same has;
    placed = λ q keep stay same has. by_roots q keep stay same has are;
  }
    where
      by_roots : (q : Request) (keep : Kept) → IsStaying q keep (setting roots s t st) → q.lists ≡ l → HasSpaceWindows q s space t w → AreNotedOnRoots (pass roots s space t st w) l old new None → IsPlacedTo q s keep space 0 new
      by_roots q keep stay same has (inl nowhere) =
          subst (IsPlacedTo q s keep space 0) (sym nowhere.same) (placed_nowhere q s keep system (nested_for q keep stay) space (stay.left.rooted ∙ nowhere.none) old none)
      by_roots q keep stay same has (inr (root, are)) =
          let noted = are q keep stay same has in
          placed_roots q s keep system (nested_for q keep stay) space root noted.small noted.on old new none noted.noted

  -- ---- one record after another

  module _ (records : List Record) (has_records : HasRecords s (map record_value records)) (n : ℕ) (r : Record) (less : n < length records) (read : r ≡ get_or records n r) (start old : List Places)
      (was : IsSpaceTo roots s space l t st w n start old) where
    here : FunctionAt s r n
    here = function_at s records has_records n r (slice_get-get_or records n r less ∙ ap Some (sym read))

    pub space_same : r.bridge ≡ None → IsSpaceTo roots s space l t st w (n + 1) start old
    space_same none = record {
      count = was.count;
      others = was.others;
      lacks = was.lacks;
      placed = λ q keep stay same has. placed_same q s keep system (nested_for q keep stay) space n here.f here.at (sym (same_bridge r here.f here.is.value) ∙ ap is_some none) old (was.placed q keep stay same has);
    }

    module _ (b : Bridge) (there : r.bridge ≡ Some b) where
      is_one : is_bridge here.f ≡ true
      is_one = sym (same_bridge r here.f here.is.value) ∙ ap is_some there

      leads_to : b.secondary ≡ secondary here.f
      leads_to = ap (λ (x : decoded.Bridge). x.secondary) (same_bridge_of r here.f b here.is.value there)

      small : secondary here.f < 256
      small = let byte = (All-contains IsFunction s here.f system.each here.is.listed).image.bytes 0x19 in omega (arith, byte)

      -- the bus behind it is no root
      pub bus_off : is_root roots b.secondary ≡ false
      bus_off = ap (λ rs. is_root rs b.secondary) (sym known.stay.left.rooted) ∙ ap (is_root q1.roots) leads_to ∙ no_root q1 s k1 system (nested_for q1 k1 known.stay) space n here.f here.at is_one

      -- so the places that are told behind it end in 64 bits
      pub told_ends : AreToldEnding (pass roots s space t st w) b.secondary (grown_by st n)
      told_ends = subst (λ bus. AreToldEnding (pass roots s space t st w) bus (grown_by st n)) (sym leads_to) (behind_ending roots s space t st w n here.f system here.at is_one)

      pub space_more : (new : List Places) → length new ≡ length old → AreNotedBehind (pass roots s space t st w) n b old new → IsSpaceTo roots s space l t st w (n + 1) start new
      space_more new size are = record {
        count = size ∙ was.count;
        others = others_more s space start old new was.others
            (others_kept q1 s k1 system (nested_for q1 k1 known.stay) space (secondary here.f) small old new size (noted_for q1 k1 known.stay known.lists (windows q1 k1 known.stay)));
        lacks = was.lacks;
        placed = λ q keep stay same has. placed_more q s keep system (nested_for q keep stay) space n here.f here.at is_one small old new (was.placed q keep stay same has) (noted_for q keep stay same has);
      }
        where
          noted_for : (q : Request) (keep : Kept) → IsStaying q keep (setting roots s t st) → q.lists ≡ l → HasSpaceWindows q s space t w → NotesOf s (placed_of (placing_on q s keep space (secondary here.f))) old new
          noted_for q keep stay same has =
              let placed = λ (over : ℕ). placed_of (placing_on q s keep space over) in
              let places = st.left.places.now in
              let over : HasWindowsOver q s keep space placed b.secondary places (grown_by st n) (windows_by st old n no_places b) =
              subst (λ bus. HasWindowsOver q s keep space placed bus places (grown_by st n) (windows_by st old n no_places b)) (sym leads_to)
              (windows_over q s keep system (nested_for q keep stay) space n here.f here.at is_one r b here.is there st.left stay.keeps_is old (was.placed q keep stay same has) no_places) in
              subst (λ r. NotesOf s (placed_of r) old new) (sym (placing_by_bus q s keep system (nested_for q keep stay) space (secondary here.f) small))
              (subst (λ bus. NotesOf s (placed_of (place_each (place_beside q s keep placed) (taken_at q s keep space bus) (space_items q s keep space bus))) old new) leads_to (are q keep placed no_places system stay has over))

  -- ---- all of them

  pub space_all : (n : ℕ) → length s ≤ n → (start table : List Places) → IsSpaceTo roots s space l t st w n start table → (q : Request) (keep : Kept) → IsStaying q keep (setting roots s t st) → q.lists ≡ l → HasSpaceWindows q s space t w
      → AreSpacePlaces q s keep space table None
  space_all n past start table is q keep stay same has = record {
    lack_is = is.lacks q keep stay same has;
    places = placed_all q s keep system (nested_for q keep stay) space n past table (is.placed q keep stay same has);
  }

-- an answer that is there says nothing of the table
pub none_if_some : {X : Type 0} (o : Option X) (P : Type 0) → is_some o ≡ true → IfNone o P
none_if_some None P there = absurd (false≢true there)
none_if_some (Some x) P there = tt

pub none_of : {X : Type 0} (o : Option X) → is_some o ≡ false → o ≡ None
none_of None off = refl
none_of (Some x) off = absurd (true≢false off)
