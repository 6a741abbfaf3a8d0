-- What is told of where a region would fit.
use Rattle.std.proofs.Common.{◌≡◌, ℕ, ◌≤◌, ◌<◌, List, [], ◌++◌, map, Bool, true, false, ◌&&◌, ◌||◌, Option, inl, inr, arith, sym, ◌∙◌, ap, subst, refl, append-nil}
use Rattle.std.specs.Prelude.{◌↔◌, IsTrue, not, MatchOption, MatchBool}
use Rattle.std.specs.Option.{option_map}
use Rattle.std.specs.List.{Contains}
use Rattle.std.proofs.lemmas.Bool.{cases_Bool}
use Rattle.pci_spec.specs.Slot.{Slot}
use Rattle.pci_spec.specs.Registers.{BRIDGE_CONTROL, COMMAND}
use Rattle.pci_spec.specs.System.{System, Function, Space, Claims, is_prefetchable_part, is_window}
use Rattle.pci_spec.specs.System as plain
use Rattle.pci_spec.specs.Bus.{is_root, IsNested}
use Rattle.pci_spec.specs.Decoded.{record_of}
use Rattle.pci_spec.specs.Decoded as decoded
use Rattle.pci_spec.specs.Mark.{AssumedRegister, is_size_assumed}
use Rattle.pci_spec.specs.Why.{Region as RegionValue, is_wide_part, fits_line, unknown_line}
use Rattle.pci_spec.specs.Why as why
use Rattle.pci_spec.specs.Fault.{named_region}
use Rattle.pci_spec.proofs.BusRanges.{root_means}
use Rattle.pci_spec.proofs.Firsts.{same_region}
use Rattle.pci_base.specs.declared.range.Range.{Range}
use Rattle.pci_base.specs.Ranges.{decoded_range_of}
use Rattle.pci_function.specs.declared.record.Record.{Record}
use Rattle.pci_function.specs.Values.{record_value}
use Rattle.pci_tree.specs.declared.region.Region as outline
use Rattle.pci_tree.specs.declared.region.Part.TheVariants as parts
use Rattle.pci_tree.specs.Outline.{Tree, RiseBySlot}
use Rattle.pci_tree.proofs.Lifting.{Has, function_for, same_slot_of, one_function}
use Rattle.pci_tree.specs.Trees.{HasTree}
use Rattle.judge_spec.specs.Given.{Given}
use Rattle.judge_spec.specs.ToldClaims.{Told}
use Rattle.judge_spec.specs.ToldRegion.{ToldRegion, IsToldIn}
use Rattle.judge_spec.proofs.Reasons.{low_register}
use Rattle.judge_spec.specs.Why.{Own, Legacy, Palette, OfLine, IsPlaceFor, IsLeastPlace, IsFit, IsFitBehind, is_said}
use Rattle.pci_claims.proofs.RegionClaims.{not_legacy, not_palette}
use Rattle.pci_claims.specs.Found.{NoneClaims, IsFoundIn, region_of_found}
use Rattle.pci_why.specs.Lines.{Appends}
use Rattle.pci_why.specs.Wide.{IsWideIn}
use Rattle.pci_why.proofs.WideBars.{wide_is, same_size, window_part, no_window_part, or_true}
use Rattle.pci_why.specs.Fits.{IsFitFor, IsFitTold}

-- ---- a root bus to which all of a space is sent

pub no_root : (roots : List ℕ) (bus : ℕ) → (Contains roots bus → ⊥) → is_root roots bus ≡ false
no_root roots bus none = elim (cases_Bool (is_root roots bus)) [ inl on ↦ absurd (none ((root_means roots bus).0 on)) | inr off ↦ off ]

-- ---- the region that is named

module _ (s : System) (slot : Slot) (reg : ℕ) (space : Space) where
  -- where none claims an address, there is no such region but a legacy part or a palette part
  never_named : NoneClaims s slot reg space → (v : RegionValue) → why.IsNamed v slot reg space → why.IsRegionIn s v → ⊥
  never_named none v named is =
      none is.f v.part v.range.first is.listed (is.slot ∙ named.0) (is.register ∙ named.1)
      (subst (λ sp. Claims is.f v.part sp v.range.first) named.2 ((is.claims v.range.first).0 (omega arith, is.some)))

  module _ (q : outline.Region) (found : IsFoundIn s slot reg space q) where
    -- a legacy part has another register than what is found
    no_legacy : BRIDGE_CONTROL ≡ reg → ⊥
    no_legacy e = not_legacy found.f found.part (sym found.is.register ∙ found.register ∙ sym e)

    -- and so has a palette part
    no_palette : COMMAND ≡ reg → ⊥
    no_palette e = not_palette found.f found.part (sym found.is.register ∙ found.register ∙ sym e)

    module _ (tree : plain.IsSystem s) (v : RegionValue) (named : why.IsNamed v slot reg space) (is : why.IsRegionIn s v) where
      here : (a : ℕ) → ((v.range.first ≤ a) × (a ≤ v.range.last)) ↔ Claims is.f v.part space a
      here a = subst (λ sp. ((v.range.first ≤ a) × (a ≤ v.range.last)) ↔ Claims is.f v.part sp a) named.2 (is.claims a)

      same : (is.f ≡ found.f) × (v.part ≡ found.part) × (space ≡ space)
      same = same_region s tree is.f found.f v.part found.part space space v.range.first q.first is.listed found.listed (is.slot ∙ named.0 ∙ sym found.slot_is ∙ found.is.slot)
          (is.register ∙ named.1 ∙ sym found.register ∙ found.is.register) ((here v.range.first).0 (omega arith, is.some)) ((found.is.claims q.first).0 (omega arith, found.is.some))

      both : (a : ℕ) → ((v.range.first ≤ a) × (a ≤ v.range.last)) ↔ ((q.first ≤ a) × (a ≤ q.last))
      both a = (
        λ h. (found.is.claims a).1 (subst (λ p. Claims found.f p space a) same.1 (subst (λ (f : Function). Claims f v.part space a) same.0 ((here a).0 h))),
        λ h. (here a).1 (subst (λ (f : Function). Claims f v.part space a) (sym same.0) (subst (λ p. Claims found.f p space a) (sym same.1) ((found.is.claims a).0 h))),
      )

      first_same : v.range.first ≡ q.first
      first_same =
          let some = is.some in
          let other = found.is.some in
          let up = (both v.range.first).0 (omega arith, some) in
          let down = (both q.first).1 (omega arith, other) in
          omega (arith, up, down)

      last_same : v.range.last ≡ q.last
      last_same =
          let some = is.some in
          let other = found.is.some in
          let up = (both v.range.last).0 (some, omega arith) in
          let down = (both q.last).1 (other, omega arith) in
          omega (arith, up, down)

      -- it is what is found
      named_is : region_of_found q found.part space ≡ v
      named_is =
          let slots : q.slot ≡ v.slot = found.slot_is ∙ sym named.0 in
          let registers : q.reg ≡ v.register = found.register ∙ sym named.1 in
          let parts : found.part ≡ v.part = sym same.1 in
          let spaces : space ≡ v.space = sym named.2 in
          let prefetch : q.prefetch ≡ v.prefetchable = found.is.prefetch ∙ ap (λ (f : Function). is_prefetchable_part f found.part) (sym same.0) ∙ ap (λ p. is_prefetchable_part is.f p) (sym same.1) ∙ is.prefetchable in
          λ i. record {
            slot = slots i;
            register = registers i;
            part = parts i;
            space = spaces i;
            prefetchable = prefetch i;
            range = record { first = sym first_same i; last = sym last_same i };
          }

-- a told range has another register than those of functions
no_range : (told : Told) (s : System) (reg : ℕ) → reg < 256 → (x : ToldRegion) → IsToldIn told s x → x.register ≡ reg → ⊥
no_range told s reg low x is named = let line = is.named.register in omega (arith, line, named, low)

-- ---- lines

-- what is told of a region that may be moved
abbrev Movable : List AssumedRegister → Told → Given → List ℕ → System → RegionValue → List ℕ → Type 0
Movable assumed told given roots s v lines = MatchBool (is_size_assumed assumed v.slot v.register) (lines ≡ unknown_line) (IsFit told given roots s v lines)

-- whether nothing is told of it: it is a window, or on a root bus to which all of the space is sent
abbrev Stays : Given → List ℕ → plain.Part → ℕ → Space → Bool
Stays given roots part bus space = is_window part || is_root roots bus && not (is_said given space)

module _ (assumed : List AssumedRegister) (told : Told) (given : Given) (t : Tree) (slot : Slot) (reg : ℕ) (space : Space) (low : reg < 256) (old : List ℕ) where
  nothing : old ≡ old ++ []
  nothing = sym (append-nil old)

  -- nothing is told where nothing is found
  pub told_none : ((s : System) → HasTree t s → NoneClaims s slot reg space) → IsFitTold assumed told given t (named_region slot reg) space old old
  told_none none s (Own v) tree named is = absurd (never_named s slot reg space (none s tree) v named is)
  told_none none s (Legacy b of_space) tree named is = record { lines = []; text = nothing; are = refl }
  told_none none s (Palette b) tree named is = record { lines = []; text = nothing; are = refl }
  told_none none s (OfLine x) tree named is = record { lines = []; text = nothing; are = refl }

  -- whether the region's bus is a root bus to which all of the space is sent
  named_bus : (v : RegionValue) → why.IsNamed v slot reg space → (is : Bool) → (is_root t.roots slot.bus && not (is_said given space)) ≡ is → (is_root t.roots v.slot.bus && not (is_said given v.space)) ≡ is
  named_bus v named is e = ap (λ (x : Slot). is_root t.roots x.bus && not (is_said given v.space)) named.0 ∙ ap (λ sp. is_root t.roots slot.bus && not (is_said given sp)) named.2 ∙ e

  nothing_behind : (s : System) (v : RegionValue) → Stays given t.roots v.part v.slot.bus v.space ≡ true → Appends (IsFitBehind assumed told given t.roots s (Own v)) old old
  nothing_behind s v stays = record {
    lines = [];
    text = nothing;
    are = subst (λ b. MatchBool b (◌≡◌ {A = List ℕ} [] []) (Movable assumed told given t.roots s v [])) (sym stays) (refl {a = []});
  }

  -- nothing is told of a window
  pub told_window : (q : outline.Region) → ((s : System) → HasTree t s → IsFoundIn s slot reg space q) → q.part ≡ parts.Window → IsFitTold assumed told given t (named_region slot reg) space old old
  told_window q found window s (Own v) tree named is =
      let here = found s tree in
      let same : region_of_found q here.part space ≡ v = named_is s slot reg space q here tree.system v named is in
      let is_one : is_window v.part ≡ true = ap (λ (x : RegionValue). is_window x.part) (sym same) ∙ window_part here.part (sym here.is.named ∙ window) in
      nothing_behind s v (ap (λ b. b || is_root t.roots v.slot.bus && not (is_said given v.space)) is_one)
  told_window q found window s (Legacy b of_space) tree named is = record { lines = []; text = nothing; are = refl }
  told_window q found window s (Palette b) tree named is = record { lines = []; text = nothing; are = refl }
  told_window q found window s (OfLine x) tree named is = record { lines = []; text = nothing; are = refl }

  -- nor on a root bus to which all of the space is sent
  pub told_on_root : (is_root t.roots slot.bus && not (is_said given space)) ≡ true → IsFitTold assumed told given t (named_region slot reg) space old old
  told_on_root off s (Own v) tree named is =
      let sent : (is_root t.roots v.slot.bus && not (is_said given v.space)) ≡ true = named_bus v named true off in
      nothing_behind s v (ap (λ b. is_window v.part || b) sent ∙ or_true (is_window v.part))
  told_on_root off s (Legacy b of_space) tree named is = record { lines = []; text = nothing; are = refl }
  told_on_root off s (Palette b) tree named is = record { lines = []; text = nothing; are = refl }
  told_on_root off s (OfLine x) tree named is = record { lines = []; text = nothing; are = refl }

  -- elsewhere, where its size is assumed, that its place isn't known
  pub told_unknown : (q : outline.Region) (new : List ℕ) → ((s : System) → HasTree t s → IsFoundIn s slot reg space q) → (q.part ≡ parts.Window → ⊥) → (is_root t.roots slot.bus && not (is_said given space)) ≡ false
      → is_size_assumed assumed slot reg ≡ true → new ≡ old ++ unknown_line → IsFitTold assumed told given t (named_region slot reg) space old new
  told_unknown q new found window on assumed_is text s (Own v) tree named is =
      let here = found s tree in
      let same : region_of_found q here.part space ≡ v = named_is s slot reg space q here tree.system v named is in
      let no_window : is_window v.part ≡ false = ap (λ (x : RegionValue). is_window x.part) (sym same) ∙ no_window_part here.part (λ e. window (here.is.named ∙ e)) in
      let moves : Stays given t.roots v.part v.slot.bus v.space ≡ false = ap (λ b. b || is_root t.roots v.slot.bus && not (is_said given v.space)) no_window ∙ named_bus v named false on in
      let size : is_size_assumed assumed v.slot v.register ≡ true = ap (λ x. is_size_assumed assumed x v.register) named.0 ∙ ap (λ n. is_size_assumed assumed slot n) named.1 ∙ assumed_is in
      record {
        lines = unknown_line;
        text = text;
        are = subst (λ b. MatchBool b (unknown_line ≡ []) (Movable assumed told given t.roots s v unknown_line)) (sym moves)
            (subst (λ b. MatchBool b (unknown_line ≡ unknown_line) (IsFit told given t.roots s v unknown_line)) (sym size) (refl {a = unknown_line}));
      }
  told_unknown q new found window on assumed_is text s (Legacy b of_space) tree named is = absurd (no_legacy s slot reg space q (found s tree) named.1)
  told_unknown q new found window on assumed_is text s (Palette b) tree named is = absurd (no_palette s slot reg space q (found s tree) named.1)
  told_unknown q new found window on assumed_is text s (OfLine x) tree named is = absurd (no_range told s reg low x is named.1)

  -- and where it isn't, the least place
  pub told_fit : (q : outline.Region) (rs : List Record) (r : Record) (wide : Bool) (fit : Option Range) (new : List ℕ) → ((s : System) → HasTree t s → IsFoundIn s slot reg space q) → (q.part ≡ parts.Window → ⊥) → t.records ≡ map record_value rs
      → ((s : System) → decoded.HasRecords s t.records → IsNested t.roots s) → RiseBySlot rs → Contains rs r → r.slot ≡ slot → (is_root t.roots slot.bus && not (is_said given space)) ≡ false → is_size_assumed assumed slot reg ≡ false
      → IsTrue wide ↔ IsWideIn r q → IsFitFor told given t space q wide fit → new ≡ old ++ fits_line space (option_map decoded_range_of fit) → IsFitTold assumed told given t (named_region slot reg) space old new
  told_fit q rs r wide fit new found window records nested rise has at on known exact fits text s (Own v) tree named is =
      let here = found s tree in
      let rs_is : Has s rs = subst (λ xs. decoded.HasRecords s xs) records tree.records in
      let own = function_for s rs r rs_is has in
      let same : own.0 ≡ here.f = one_function s rs own.0 here.f rs_is rise own.1 here.listed (sym (same_slot_of r own.0 own.2) ∙ at ∙ sym here.slot_is ∙ here.is.slot) in
      let stands : record_value r ≡ record_of here.f = own.2 ∙ ap record_of same in
      let wide_same : wide ≡ is_wide_part here.f here.part = wide_is r here.f here.part space q wide stands here.is exact in
      let place = option_map decoded_range_of fit in
      let lines = fits_line space place in
      let as_told : RegionValue = region_of_found q here.part space in
      let moves : Stays given t.roots here.part q.slot.bus space ≡ false =
      ap (λ b. b || is_root t.roots q.slot.bus && not (is_said given space)) (no_window_part here.part (λ e. window (here.is.named ∙ e)))
      ∙ ap (λ (x : Slot). is_root t.roots x.bus && not (is_said given space)) here.slot_is ∙ on in
      let is_fit : IsFit told given t.roots s as_told lines = record {
        f = here.f;
        listed = here.listed;
        slot = sym here.is.slot;
        place = place;
        exact = subst (λ w. MatchOption place ((first : ℕ) → IsPlaceFor told given t.roots s as_told w first → ⊥) (λ range. IsLeastPlace told given t.roots s as_told w range)) wide_same
            (fits s here.f here.part tree (nested s tree.records) here.listed here.is);
        text = refl;
      } in
      let behind : IsFitBehind assumed told given t.roots s (Own as_told) lines =
      subst (λ b. MatchBool b (lines ≡ []) (Movable assumed told given t.roots s as_told lines)) (sym moves)
      (subst (λ b. MatchBool b (lines ≡ unknown_line) (IsFit told given t.roots s as_told lines)) (sym (same_size assumed s slot reg space q false here known)) is_fit) in
      record {
        lines = lines;
        text = text;
        are = subst (λ (x : RegionValue). IsFitBehind assumed told given t.roots s (Own x) lines) (named_is s slot reg space q here tree.system v named is) behind;
      }
  told_fit q rs r wide fit new found window records nested rise has at on known exact fits text s (Legacy b of_space) tree named is =
      absurd (no_legacy s slot reg space q (found s tree) named.1)
  told_fit q rs r wide fit new found window records nested rise has at on known exact fits text s (Palette b) tree named is = absurd (no_palette s slot reg space q (found s tree) named.1)
  told_fit q rs r wide fit new found window records nested rise has at on known exact fits text s (OfLine x) tree named is = absurd (no_range told s reg low x is named.1)

-- nothing is told of a told range
pub told_range : (assumed : List AssumedRegister) (told : Told) (given : Given) (t : Tree) (slot : Slot) (register : ℕ) (space : Space) (old : List ℕ) → 256 ≤ register → IsFitTold assumed told given t (named_region slot register) space old old
told_range assumed told given t slot register space old high s (Own v) tree named is =
    absurd (let less = low_register s v is in let at : v.register ≡ register = named.1 in let no : ⊥ = omega (arith, less, at, high) in no)
told_range assumed told given t slot register space old high s (Legacy b of_space) tree named is =
    absurd (let at : BRIDGE_CONTROL ≡ register = named.1 in let no : ⊥ = omega (arith, at, high) in no)
told_range assumed told given t slot register space old high s (Palette b) tree named is =
    absurd (let at : COMMAND ≡ register = named.1 in let no : ⊥ = omega (arith, at, high) in no)
told_range assumed told given t slot register space old high s (OfLine x) tree named is = record { lines = []; text = sym (append-nil old); are = refl }
