-- The places of both spaces in one table, and what lacks one: of I/O, or else of memory.
use Rattle.std.proofs.Common.{◌≡◌, ℕ, inl, inr, ◌⊎◌, List, [], ◌∷◌, ◌++◌, length, replicate, get_or, arith, refl, sym, ◌∙◌, ap, subst, Option, None, Some}
use Rattle.std.specs.Option.{IfSome}
use Rattle.std.proofs.lemmas.Bool.{cases_lt}
use Rattle.std.proofs.lemmas.List.{get_or-replicate, get_or_past}
use Rattle.std.proofs.lemmas.List.Elements.{All-nil, All-cons, All-append, All-replicate}
use Rattle.std.proofs.lemmas.Option.{slice_get_within}
use Rattle.pci_spec.specs.Window.{IoWindow, MemoryWindow, PrefetchWindow}
use Rattle.pci_spec.specs.System.{System, Space, Io, Memory, Part, Bar, Rom, Window, space_of, window_space}
use Rattle.settle_spec.specs.Lists.{Lists, Request}
use Rattle.settle_spec.specs.Items.{PlacingItem as ItemValue, Placing, AllPlaced, Lacks}
use Rattle.settle_spec.specs.Places.{first_lack}
use Rattle.settle_spec.specs.Kept.{Kept}
use Rattle.settle_spec.specs.Keeping.Places.{placing_on, lacking_on}
use Rattle.pci_base.specs.declared.memory.Refused.{Refused}
use Rattle.pci_base.specs.declared.memory.Refused.TheVariants as refused
use Rattle.pci_base.specs.WindowKinds.{kind_value}
use Rattle.pci_base.specs.declared.range.Range.{Range}
use Rattle.pci_first_fit.specs.declared.extent.Extent.{Extent}
use Rattle.pci_first_fit.specs.declared.own.Terms.{Terms}
use Rattle.pci_first_fit.specs.Spots.{IsExtent}
use Rattle.pci_first_fit.specs.Slots.{Demand}
use Rattle.pci_first_fit.specs.Own.{AreTerms}
use Rattle.pci_first_fit.specs.Buses.{AreWindows}
use Rattle.pci_first_fit.specs.declared.over.Left.{Left}
use Rattle.pci_first_fit.specs.Over.{AreOpenOver}
use Rattle.pci_first_fit.specs.Keeping.{TellsKept}
use Rattle.pci_first_fit.specs.declared.lines.Line.{Line}
use Rattle.pci_first_fit.specs.Lines.{AreLines}
use Rattle.pci_settle_places.specs.declared.anew.Unplaced.{Unplaced}
use Rattle.pci_settle_places.specs.declared.anew.Unplaced.TheVariants as unplaced
use Rattle.pci_settle_places.specs.declared.candidate.Candidate.{Candidate}
use Rattle.pci_settle_places.specs.declared.candidate.SpaceWindows.{SpaceWindows}
use Rattle.pci_settle_places.specs.declared.places.Places.{Places}
use Rattle.pci_kept.specs.declared.held.Held.{Held}
use Rattle.pci_settle_places.specs.declared.staying.Staying.{Staying}
use Rattle.pci_kept.specs.Held.{AreHeld, AreHeldIn}
use Rattle.pci_settle_places.specs.Staying.{IsStaying, setting}
use Rattle.pci_settle_places.specs.Candidates.{candidate_value, HasWindowsIn, KnowsRequest, pass}
use Rattle.pci_settle_places.specs.Places.{place_range_in}
use Rattle.pci_settle_places.specs.Spaces.{HasNoPlaceInSpace, KeepsOtherSpace, space_lack, AreSpacePlacesIn}
use Rattle.pci_settle_places.specs.Placed.{IsSpaceTooLarge, HasPlacesIn, IsUnplacedIn, AreAllNone, IsLeaving, CanBeLeft, ArePlacesOff, IsUnplacedOff}

-- ---- what lacks a place

first_none : (p : Placing) (other : Option ItemValue) → first_lack p None ≡ None → first_lack p other ≡ other
first_none (AllPlaced placed) other none = refl
first_none (Lacks i) other none = absurd (let no : ⊥ = cc in no)

first_some : (p : Placing) (other : Option ItemValue) (i : ItemValue) → first_lack p None ≡ Some i → first_lack p other ≡ Some i
first_some (AllPlaced placed) other i some = absurd (let no : ⊥ = cc in no)
first_some (Lacks j) other i some = some

lacking_memory : (q : Request) (s : System) (keep : Kept) (roots : List ℕ) → space_lack q s keep Io roots ≡ None → lacking_on q s keep roots ≡ space_lack q s keep Memory roots
lacking_memory q s keep [] none = refl
lacking_memory q s keep (root ∷ roots) none = first_none (placing_on q s keep Io root) (first_lack (placing_on q s keep Memory root) None) none

lacking_io : (q : Request) (s : System) (keep : Kept) (roots : List ℕ) (i : ItemValue) → space_lack q s keep Io roots ≡ Some i → lacking_on q s keep roots ≡ Some i
lacking_io q s keep [] i some = absurd (let no : ⊥ = cc in no)
lacking_io q s keep (root ∷ roots) i some = first_some (placing_on q s keep Io root) (first_lack (placing_on q s keep Memory root) None) i some

-- ---- of one space

pub no_windows : AreWindows (replicate 256 None)
no_windows = All-replicate (λ (o : Option Extent). IfSome o IsExtent) 256 None tt

module _ (roots : List ℕ) (s : System) (space : Space) (l : Lists) (t : Terms) (st : Staying) where
  pub space_placed : (w : SpaceWindows) (table : List Places) → HasWindowsIn (pass roots s space t st w) → AreSpacePlacesIn (pass roots s space t st w) l table None → HasPlacesIn (setting roots s t st) space l table
  space_placed w table windows are q keep stay same =
      let placed = are q keep stay same (windows q keep stay) in
      record { lack = placed.lack_is; places = placed.places }

  pub space_lacks : (w : SpaceWindows) (table : List Places) (c : Candidate) → HasWindowsIn (pass roots s space t st w) → AreSpacePlacesIn (pass roots s space t st w) l table (Some c)
      → (q : Request) (keep : Kept) → IsStaying q keep (setting roots s t st) → q.lists ≡ l → space_lack q s keep space q.roots ≡ Some (candidate_value s c)
  space_lacks w table c windows are q keep stay same = (are q keep stay same (windows q keep stay)).lack_is

  pub too_large : (e : Refused Unplaced) → IsSpaceTooLarge (setting roots s t st) space e → IsUnplacedIn (setting roots s t st) space l e
  too_large refused.Memory is = tt
  too_large (refused.Fault (unplaced.Lacks x)) is = absurd is
  too_large (refused.Fault (unplaced.TooLarge class k)) (of, is) = (of, λ q keep stay same. is q keep stay)

-- ---- a table without any place

six_none : (n : ℕ) → ◌≡◌ {A = Option Range} (get_or (replicate 6 None) n None) None
six_none n = elim (cases_lt n 6) [
  | inl inside ↦ get_or-replicate 6 n None None inside
  | inr past ↦ get_or_past (replicate 6 None) n None past
]

abbrev pub none_at_all : Places
none_at_all = record { bars = replicate 6 None; rom = None; windows = record { io = None; memory = None; prefetchable = None } }

none_in : (part : Part) → place_range_in none_at_all part ≡ None
none_in (Bar n) = six_none n
none_in Rom = refl
none_in (Window IoWindow) = refl
none_in (Window MemoryWindow) = refl
none_in (Window PrefetchWindow) = refl

pub none_first : (table : List Places) → table ≡ [] → AreAllNone table
none_first table none k d part low = absurd (let long : length table ≡ 0 = ap length none in let no : ⊥ = omega (arith, low, long) in no)

pub none_more : (old new : List Places) → AreAllNone old → new ≡ old ++ none_at_all ∷ [] → AreAllNone new
none_more old new none put =
    let test : Places → Type 0 = λ entry. (part : Part) → place_range_in entry part ≡ None in
    let all = All-append test old (none_at_all ∷ []) (λ k d low part. none k d part low) (All-cons test none_at_all [] none_in (All-nil test)) in
    subst AreAllNone (sym put) (λ k d part low. all k d low part)

pub has_none : (s : System) (space : Space) (table : List Places) → length table ≡ length s → AreAllNone table → HasNoPlaceInSpace s space table
has_none s space table count none k f d part at there of = let inside = slice_get_within s k f at in none k d part (omega (arith, inside, count))

-- ---- both spaces

cases_space : (x : Space) → (x ≡ Io) ⊎ (x ≡ Memory)
cases_space Io = inl refl
cases_space Memory = inr refl

not_both : (x : Space) → x ≡ Io → x ≡ Memory → ⊥
not_both x one other = let same : Io ≡ Memory = sym one ∙ other in (let no : ⊥ = cc in no)

-- what was noted of I/O says nothing of memory
pub still_none : (s : System) (start table : List Places) → length start ≡ length s → AreAllNone start → KeepsOtherSpace s Io start table → HasNoPlaceInSpace s Memory table
still_none s start table count none kept k f d part at there of =
    let inside = slice_get_within s k f at in
    kept.others k f d part at there (λ io. not_both (space_of f part) io of) ∙ none k d part (omega (arith, inside, count))

module _ (roots : List ℕ) (s : System) (d : Demand) (t : Terms) (terms : AreTerms d t) (left : Left) (held : List Held) (are : AreHeldIn roots s d.lists left.kept.now left.grown.now held) (lines : List Line) (rows : AreLines roots d.told.ranges lines)
    (st : Staying) (left_is : st.left ≡ left) (held_is : st.held.now ≡ held) (lines_is : st.lines.now ≡ lines) where
  same_lists : (q : Request) (keep : Kept) → IsLeaving q keep roots s d left → q.lists ≡ d.lists
  same_lists q keep leaving = ap (λ (x : Demand). x.lists) leaving.demands

  stay_of : (q : Request) (keep : Kept) → IsLeaving q keep roots s d left → IsStaying q keep (setting roots s t st)
  stay_of q keep leaving = record {
    left = record {
      rooted = leaving.rooted;
      terms = subst (λ x. AreTerms x t) (sym leaving.demands) terms;
      overs_are = subst (λ (x : Left). AreOpenOver q s x.over.now) (sym left_is) leaving.overs_are;
    };
    keeps_is = subst (TellsKept q s keep) (sym left_is) leaving.keeps_is;
    held_is = subst (AreHeld q s keep) (sym held_is) (are q keep leaving.rooted (same_lists q keep leaving) leaving.keeps_is.stays_are leaving.keeps_is.ranges_are);
    lines_are = subst (AreLines q.roots q.told.ranges) (sym lines_is)
        (subst (λ ranges. AreLines q.roots ranges lines) (sym (ap (λ (x : Demand). x.told.ranges) leaving.demands))
        (subst (λ rs. AreLines rs d.told.ranges lines) (sym leaving.rooted) rows));
  }

  pub request_known : CanBeLeft roots s d left → KnowsRequest (setting roots s t st) d.lists
  request_known can = record { request = can.request; keep = can.keep; stay = stay_of can.request can.keep can.leaving; lists = same_lists can.request can.keep can.leaving }

  pub both_placed : (first table : List Places) → length table ≡ length s → HasPlacesIn (setting roots s t st) Io d.lists first → KeepsOtherSpace s Memory first table → HasPlacesIn (setting roots s t st) Memory d.lists table → ArePlacesOff roots s d left table
  both_placed first table count io kept memory q keep leaving =
      let placed = io q keep (stay_of q keep leaving) (same_lists q keep leaving) in
      let other = memory q keep (stay_of q keep leaving) (same_lists q keep leaving) in
      record {
        count = count;
        lack = lacking_memory q s keep q.roots placed.lack ∙ other.lack;
        each = λ k f d part at there. elim (cases_space (space_of f part)) [
          | inl of ↦ kept.others k f d part at there (λ is. not_both (space_of f part) of is) ∙ placed.places k f d part at there of
          | inr of ↦ other.places k f d part at there of
        ];
      }

  pub io_unplaced : (e : Refused Unplaced) → IsUnplacedIn (setting roots s t st) Io d.lists e → IsUnplacedOff roots s d left e
  io_unplaced refused.Memory is = tt
  io_unplaced (refused.Fault (unplaced.Lacks x)) is = λ q keep leaving. lacking_io q s keep q.roots (candidate_value s x) (is q keep (stay_of q keep leaving) (same_lists q keep leaving))
  io_unplaced (refused.Fault (unplaced.TooLarge class k)) (of, is) = λ q keep leaving. record {
    large = is q keep (stay_of q keep leaving) (same_lists q keep leaving);
    io = λ memory. absurd (not_both (window_space (kind_value class)) of memory);
  }

  pub memory_unplaced : (first : List Places) → HasPlacesIn (setting roots s t st) Io d.lists first → (e : Refused Unplaced) → IsUnplacedIn (setting roots s t st) Memory d.lists e → IsUnplacedOff roots s d left e
  memory_unplaced first io refused.Memory is = tt
  memory_unplaced first io (refused.Fault (unplaced.Lacks x)) is = λ q keep leaving.
      lacking_memory q s keep q.roots (io q keep (stay_of q keep leaving) (same_lists q keep leaving)).lack ∙ is q keep (stay_of q keep leaving) (same_lists q keep leaving)
  memory_unplaced first io (refused.Fault (unplaced.TooLarge class k)) (of, is) = λ q keep leaving. record {
    large = is q keep (stay_of q keep leaving) (same_lists q keep leaving);
    io = λ memory. (io q keep (stay_of q keep leaving) (same_lists q keep leaving)).lack;
  }
