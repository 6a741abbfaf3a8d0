-- In the end each spare has a spot behind its bridge, or has no room there.
use Rattle.std.proofs.Common.{◌≡◌, ◌⊎◌, ◌<◌, ◌≤◌, inl, inr, [], ◌∷◌, Bool, true, false, cond, arith, refl, sym, ◌∙◌, ap, subst, Option, None, Some, ◌%◌}
use Rattle.std.specs.List.{AllPairs, Contains}
use Rattle.std.specs.Option.{is_some}
use Rattle.std.proofs.lemmas.Bool.{both_ways, cases_Bool, cond_both, false_from_ne_true}
use Rattle.pci_spec.specs.Slot.{slot_number}
use Rattle.pci_spec.specs.Window.{WindowKind, IoWindow, MemoryWindow, PrefetchWindow, has_window, page_size}
use Rattle.pci_spec.specs.System.{System, Function, is_bridge}
use Rattle.pci_spec.proofs.Members.{in_nil, in_cons_cases, in_head, in_tail, pairs_head, pairs_tail}
use Rattle.plan_spec.specs.Plan.{same_class}
use Rattle.plan_spec.proofs.Planning.PlacedItems.{same_class_is}
use Rattle.plan_spec.proofs.Planning.Safe.{slots_of}
use Rattle.plan_spec.proofs.Planning.Tables.{class_itself}
use Rattle.settle_spec.specs.FirstPlace.{Extent}
use Rattle.settle_spec.specs.Lists.{Request, wanted_in}
use Rattle.settle_spec.specs.Spares.{spare_extent}
use Rattle.settle_spec.specs.Stands.{window_part}
use Rattle.settle_spec.specs.Items.{highest_in, spare_of}
use Rattle.settle_spec.specs.Kept.{Kept}
use Rattle.settle_spec.specs.Wishes.{Spared, spared_behind, Granted, or_denied, with_spare_of, with_spares_of, with_all_spares, granted}
use Rattle.settle_laws.specs.Keeping.PlacesLaws.{CanSettle}
use Rattle.settle_laws.proofs.Told.Wished.{can_all}
use Rattle.settle_laws.proofs.Wishing.Refused.{admitted_of}
use Rattle.settle_laws.proofs.Pieces.{Lower, system_rises}
use Rattle.settle_laws.proofs.Wishing.Denied.{room_before}
use Rattle.settle_laws.proofs.Wishing.Granted.{IsSpareOf, IsGranted, spare_is, one_wish, all_wishes}
use Rattle.settle_laws.proofs.Wishing.Later.{AreAlike, Same, Changes, spared_changes}
use Rattle.settle_laws.proofs.Wishing.Spare.{IsSpare, IsSpared, is_spared, is_spared_off}
use Rattle.settle_laws.proofs.Wishing.Spots.{HasSpot, spared_spot, spot_left}
use Rattle.plan_spec.proofs.Planning.Placement.{IsMultiple}
use Rattle.settle_spec.specs.Growing.{finally_kept}
use Rattle.settle_spec.specs.Sparing.{without_slots, have_spares, placing_request}
use Rattle.settle_spec.specs.SpareLaws.{kept_sparing, has_room_for, result_sparing, result_of}
use Rattle.settle_laws.specs.SparingLaws.{SparesAreAnswered}
use Rattle.settle_laws.proofs.Wishing.Room.{room_there}
use Rattle.judge_spec.specs.ToldRegion.{ToldRegion, told_regions}
use Rattle.settle_laws.proofs.Untold.{untold_forward}
use Rattle.settle_laws.proofs.Wishing.Sparing.{placing_asked}

-- the spares of a class are alike
pub record AreSpares (spare : WindowKind → Function → Option Extent) (like : WindowKind → Extent) : Type 0 where
  pub each : (c : WindowKind) (b : Function) (e : Extent) → spare c b ≡ Some e → IsSpareOf c b e
  pub alike : (c : WindowKind) (b : Function) (e : Extent) → spare c b ≡ Some e → AreAlike e (like c)

pub spares_are : (q : Request) → AreSpares (spare_of q) (λ c. spare_extent c (wanted_in q.spares c) 0)
spares_are q = record { each = spare_is q; alike = λ c b e is. by c b e _ is }
  where
    by : (c : WindowKind) (b : Function) (e : Extent) (t : Bool) → cond t (Some (spare_extent c (wanted_in q.spares c) (highest_in c b.probe))) None ≡ Some e → AreAlike e (spare_extent c (wanted_in q.spares c) 0)
    by c b e false is = absurd (let no : ⊥ = cc in no)
    by c b e true is =
        let same : spare_extent c (wanted_in q.spares c) (highest_in c b.probe) ≡ e = cc in
        subst (λ x. AreAlike x (spare_extent c (wanted_in q.spares c) 0)) same record { size = refl; alignment = refl }

module _ (q : Request) (forward : (x : ToldRegion) → Contains (told_regions q.told) x → x.told.first ≤ x.told.last) (s : System) (spare : WindowKind → Function → Option Extent) (like : WindowKind → Extent) (are : AreSpares spare like) (k : Kept) (base : CanSettle q s k) where
  abbrev Ok : Granted → Type 0
  Ok g = IsGranted q s spare are.each k g

  -- a spare has a spot, or no room
  abbrev pub Answered : WindowKind → Kept → Function → Extent → Type 0
  Answered c j b e = HasSpot q s c j b e ⊎ (is_some (spared_behind q s c b e j) ≡ false)

  -- ---- what a wish that is granted leaves, all wishes for lower buses leave

  module _ (b : Function) (P : Kept → Type 0) (left : (d : WindowKind) (f : Function) → Contains s f → (x : Extent) → spare d f ≡ Some x → (j : Kept) → CanSettle q s j → (y : Spared) → spared_behind q s d f x j ≡ Some y → f.slot.bus ≤ b.slot.bus → P j → P y.kept) where
    pub left_after : (d : WindowKind) (f : Function) → Contains s f → f.slot.bus ≤ b.slot.bus → (g : Granted) → Ok g → P g.kept → (o : Option Extent) → spare d f ≡ o → P (with_spare_of q s d f o g).kept
    left_after d f in_f low g ok answer None at = answer
    left_after d f in_f low g ok answer (Some x) at =
        cond_both (has_window d f.probe) (or_denied (window_part d f) g (spared_behind q s d f x g.kept)) g (λ (y : Granted). P y.kept) (λ there. by (spared_behind q s d f x g.kept) refl) (λ absent. answer)
      where
        by : (o : Option Spared) → spared_behind q s d f x g.kept ≡ o → P (or_denied (window_part d f) g o).kept
        by None found = answer
        by (Some y) found = left d f in_f x at g.kept ok.can y found low answer

    pub left_behind : (f : Function) → Contains s f → f.slot.bus ≤ b.slot.bus → (g : Granted) → Ok g → P g.kept → P (with_spares_of q s spare f g).kept
    left_behind f in_f low g ok answer =
        let io = one_wish q s spare are.each k IoWindow f in_f g ok (spare IoWindow f) refl in
        let memory = one_wish q s spare are.each k MemoryWindow f in_f _ io (spare MemoryWindow f) refl in
        left_after PrefetchWindow f in_f low _ memory (left_after MemoryWindow f in_f low _ io (left_after IoWindow f in_f low g ok answer (spare IoWindow f) refl) (spare MemoryWindow f) refl) (spare PrefetchWindow f) refl

  module _ (c : WindowKind) (b : Function) (in_b : Contains s b) (e : Extent) (spared : spare c b ≡ Some e) where
    is_b : is_bridge b ≡ true
    is_b = (are.each c b e spared).bridge

    like_spare : IsSpare c (like c)
    like_spare =
        let own = (are.each c b e spared).spare in
        let alike = are.alike c b e spared in
        record {
          some = subst (λ n. 0 < n) alike.size own.some;
          whole = subst (λ n. n % page_size c ≡ 0) alike.size own.whole;
          pages = subst (λ n. IsMultiple n (page_size c)) alike.alignment own.pages;
          aligned = subst (λ n. 0 < n) alike.alignment own.aligned;
        }

    -- a wish that is granted leaves the answer
    module _ (d : WindowKind) (f : Function) (in_f : Contains s f) (x : Extent) (for_f : spare d f ≡ Some x) (j : Kept) (can : CanSettle q s j) (y : Spared) (found : spared_behind q s d f x j ≡ Some y) (low : f.slot.bus ≤ b.slot.bus) where
      of : IsSpareOf d f x
      of = are.each d f x for_f

      made : IsSpared q s d j y f x
      made = is_spared q s d j can f in_f of.bridge x of.spare y found

      changes : Changes q s c can.system can.nested (like c) j y.kept
      changes = elim (cases_Bool (same_class c d)) [
        | inl same ↦
            let class : d ≡ c = same_class_is c d same in
            let few = (slots_of s can.system f in_f).0 in
            spared_changes q s c can.system can.nested (like c) 256 f in_f of.bridge few x (subst (λ a. AreAlike x (like a)) class (are.alike d f x for_f)) [] j y (ap (λ a. spared_behind q s a f x j) (sym class) ∙ found)
        | inr other ↦ λ g in_g is_g. Same (made.classes c (λ is. both_ways (same_class c d) other (ap (same_class c) (sym is) ∙ class_itself c)) g in_g is_g)
      ]

      pub spot_stays : HasSpot q s c j b e → HasSpot q s c y.kept b e
      spot_stays spot = spot_left q s c d j can b f in_b is_b in_f of.bridge low e x y made spot

      pub none_stays : is_some (spared_behind q s c b e j) ≡ false → is_some (spared_behind q s c b e y.kept) ≡ false
      none_stays none = false_from_ne_true (is_some (spared_behind q s c b e y.kept)) (λ some.
          let few = (slots_of s can.system b in_b).0 in
          both_ways (is_some (spared_behind q s c b e j)) none
          (room_before q forward s c (like c) like_spare j y.kept can made.can made.keeps changes 256 b in_b is_b few e (are.alike c b e spared) [] some))

      step : Answered c j b e → Answered c y.kept b e
      step (inl spot) = inl (spot_stays spot)
      step (inr none) = inr (none_stays none)

    after : (d : WindowKind) (f : Function) → Contains s f → f.slot.bus ≤ b.slot.bus → (g : Granted) → Ok g → Answered c g.kept b e → (o : Option Extent) → spare d f ≡ o → Answered c (with_spare_of q s d f o g).kept b e
    after = left_after b (λ j. Answered c j b e) step

    behind_all : (f : Function) → Contains s f → f.slot.bus ≤ b.slot.bus → (g : Granted) → Ok g → Answered c g.kept b e → Answered c (with_spares_of q s spare f g).kept b e
    behind_all = left_behind b (λ j. Answered c j b e) step

    -- its own wish answers it
    answered : has_window c b.probe ≡ true → (g : Granted) → Ok g → (o : Option Extent) → spare c b ≡ o → o ≡ Some e → Answered c (with_spare_of q s c b o g).kept b e
    answered there g ok None at is = absurd (let no : ⊥ = cc in no)
    answered there g ok (Some x) at is =
        let same : x ≡ e = cc in
        subst (λ y. Answered c (with_spare_of q s c b (Some x) g).kept b y) same (by (spared_behind q s c b x g.kept) refl (has_window c b.probe) there)
      where
        by : (o : Option Spared) → spared_behind q s c b x g.kept ≡ o → (t : Bool) → t ≡ true → Answered c (cond t (or_denied (window_part c b) g o) g).kept b x
        by o found false is = absurd (let no : ⊥ = cc in no)
        by None found true is = inr (ap is_some found)
        by (Some y) found true is = (let of = are.each c b x at in inl (spared_spot q s c g.kept y b x [] (is_spared_off q s c g.kept ok.can b in_b of.bridge x of.spare y found)))

  by_class : (c : WindowKind) (b : Function) (in_b : Contains s b) (e : Extent) (spared : spare c b ≡ Some e) → has_window c b.probe ≡ true → (g : Granted) → Ok g → Answered c (with_spares_of q s spare b g).kept b e
  by_class c b in_b e spared there g ok = by c spared there
    where
      io : Granted
      io = with_spare_of q s IoWindow b (spare IoWindow b) g

      ok_io : Ok io
      ok_io = one_wish q s spare are.each k IoWindow b in_b g ok (spare IoWindow b) refl

      memory : Granted
      memory = with_spare_of q s MemoryWindow b (spare MemoryWindow b) io

      ok_memory : Ok memory
      ok_memory = one_wish q s spare are.each k MemoryWindow b in_b io ok_io (spare MemoryWindow b) refl

      by : (c : WindowKind) → spare c b ≡ Some e → has_window c b.probe ≡ true → Answered c (with_spares_of q s spare b g).kept b e
      by IoWindow at there = after IoWindow b in_b e at PrefetchWindow b in_b (omega arith) memory ok_memory
          (after IoWindow b in_b e at MemoryWindow b in_b (omega arith) io ok_io (answered IoWindow b in_b e at there g ok (spare IoWindow b) refl at) (spare MemoryWindow b) refl) (spare PrefetchWindow b) refl
      by MemoryWindow at there = after MemoryWindow b in_b e at PrefetchWindow b in_b (omega arith) memory ok_memory (answered MemoryWindow b in_b e at there io ok_io (spare MemoryWindow b) refl at) (spare PrefetchWindow b) refl
      by PrefetchWindow at there = answered PrefetchWindow b in_b e at there memory ok_memory (spare PrefetchWindow b) refl at

  pub lower_bus : (f b : Function) → Contains s f → Contains s b → slot_number f.slot < slot_number b.slot → f.slot.bus ≤ b.slot.bus
  lower_bus f b in_f in_b less =
      let x = slots_of s base.system f in_f in
      let y = slots_of s base.system b in_b in
      let device = y.1 in
      let function = y.2 in
      omega (arith, less, device, function)

  all_answered : (g : Granted) → Ok g → (t : System) → ((f : Function) → Contains t f → Contains s f) → AllPairs Lower t → (c : WindowKind) (b : Function) → Contains t b → (e : Extent) → has_window c b.probe ≡ true → spare c b ≡ Some e → Answered c (with_all_spares q s spare g t).kept b e
  all_answered g ok [] in_s rises c b has e there at = absurd (in_nil b has)
  all_answered g ok (f ∷ more) in_s rises c b has e there at =
      let before = with_all_spares q s spare g more in
      let ok_before : Ok before = all_wishes q s spare are.each k g ok more (λ x listed. in_s x (in_tail f more x listed)) in
      let in_f = in_s f (in_head f more) in
      let rest = λ (in_more : Contains more b). all_answered g ok more (λ x listed. in_s x (in_tail f more x listed)) (pairs_tail Lower f more rises) c b in_more e there at in
      elim (in_cons_cases f more b has) [
        | inl here ↦ subst (λ x. Answered c (with_spares_of q s spare x before).kept b e) (sym here) (by_class c b (in_s b has) e at there before ok_before)
        | inr later ↦ behind_all c b (in_s b has) e at f in_f (lower_bus f b in_f (in_s b has) (pairs_head Lower f more b rises later)) before ok_before (rest later)
      ]

-- The law: in the end each spare is answered.
pub each_answered : (q asked : Request) → ((x : ToldRegion) → Contains (told_regions q.told) x → x.told.first ≤ x.told.last) → (s : System) (k : Kept) (can : CanSettle q s k) (c : WindowKind) (b : Function) → Contains s b → (e : Extent) → has_window c b.probe ≡ true → spare_of asked c b ≡ Some e
    → HasSpot q s c (granted q s (spare_of asked) k).kept b e ⊎ (is_some (spared_behind q s c b e (granted q s (spare_of asked) k).kept) ≡ false)
each_answered q asked forward s k can c b listed e there at =
    all_answered q forward s (spare_of asked) (λ c. spare_extent c (wanted_in asked.spares c) 0) (spares_are asked) k can (record { kept = k; denied = [] }) record { can = can; alike = refl } s (λ f has. has) (system_rises s can.system) c b listed e there at

-- The law: a window has room for its spare, or none could be made.
pub spares_are_answered : SparesAreAnswered
spares_are_answered q s c b e may listed spare there settles =
    let of = spare_is q c b e spare in
    let can = can_all q s (admitted_of q s may) settles in
    elim (each_answered (placing_request q s) q (untold_forward (placing_request q s) (placing_asked q s may).untold) s (finally_kept (placing_request q s) s) can.before c b listed e there spare) [
      | inl spot ↦ inl (cond_both (have_spares q s) q (without_slots q) (λ r. has_room_for q (result_sparing q s) c (result_of q s b) e ≡ has_room_for r (result_sparing q s) c (result_of q s b) e) (λ spares. refl) (λ none. refl)
          ∙ room_there (placing_request q s) s (kept_sparing q s) can.then c b listed of.bridge e of.spare.aligned spot)
      | inr none ↦ inr none
    ]
