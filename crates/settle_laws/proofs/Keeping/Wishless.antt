-- Wishes change no place, and nothing of what is enabled: without them all else is settled beside the same.
use Rattle.std.proofs.Common.{◌≡◌, ◌&&◌, ◌||◌, ℕ, zero, suc, List, [], ◌∷◌, not, refl, sym, ◌∙◌, ap, Option, None, Some}
use Rattle.std.specs.Bool.{◌==◌, if◌then◌else◌}
use Rattle.std.specs.List.{list_any}
use Rattle.std.specs.Option.{is_some}
use Rattle.std.proofs.Math.Path.{fun_ext}
use Rattle.pci_spec.specs.Decoded.{Range}
use Rattle.pci_spec.specs.System.{System, Function, Space, Io, Memory, is_bridge, is_space_on, space_of}
use Rattle.pci_spec.specs.Bus.{secondary}
use Rattle.settle_spec.specs.Items.{place_each}
use Rattle.settle_spec.specs.Lines.{taken_for}
use Rattle.settle_spec.specs.Lists.{Request}
use Rattle.settle_spec.specs.Parts.{FunctionPart, has_left, are_same_space}
use Rattle.settle_spec.specs.Stands.{part_space, window_part}
use Rattle.settle_spec.specs.Places.{placed_of, place_among, first_lack}
use Rattle.settle_spec.specs.Kept.{Kept, no_wish, unwished}
use Rattle.settle_spec.specs.Keeping.Places.{space_items, taken_at, place_of_item, placing_within, new_place, lacking_on, lacking}
use Rattle.settle_spec.specs.Registers.{changing, has_own}
use Rattle.settle_spec.specs.Keeping.Registers.{got_place, is_live_within, is_enabled_in}
use Rattle.settle_spec.specs.Wishes.{place_then}
use Rattle.settle_laws.specs.PlacesLaws.{place_range}
use Rattle.settle_laws.specs.KeptLaws.{IsWished, IsSoundKept, WishesNothing}
use Rattle.settle_laws.specs.Keeping.PlacesLaws.{CanSettle}

module _ (q : Request) (s : System) (k : Kept) (wish : FunctionPart → Option Range) where
  abbrev j : Kept
  j = record k { wished = wish }

  pub placing_same : (space : Space) (depth bus : ℕ) → placing_within q s j space depth bus ≡ placing_within q s k space depth bus
  unfolding placing_within
  placing_same space zero bus = refl
  placing_same Io (suc depth) bus = ap (λ places. place_each (λ x xs. place_of_item q s k places x (taken_for q x.region xs)) (taken_at q s k Io bus) (space_items q s k Io bus)) (fun_ext (λ over. ap placed_of (placing_same Io depth over)))
  placing_same Memory (suc depth) bus = ap (λ places. place_each (λ x xs. place_of_item q s k places x (taken_for q x.region xs)) (taken_at q s k Memory bus) (space_items q s k Memory bus)) (fun_ext (λ over. ap placed_of (placing_same Memory depth over)))

  pub new_same : (r : FunctionPart) → new_place q s j r ≡ new_place q s k r
  new_same r = ap (λ p. place_among r (placed_of p)) (placing_same (space_of r.function r.part) 256 r.function.slot.bus)

  -- where a part is without wishes
  pub place_same : (r : FunctionPart) → place_then q s j r ≡ place_then q s k r
  place_same r = ap (λ o. if k.stays r then Some (k.range r) else place_range o) (new_same r)

  pub lacking_same : lacking q s j ≡ lacking q s k
  lacking_same = by q.roots
    where
      by : (roots : List ℕ) → lacking_on q s j roots ≡ lacking_on q s k roots
      by [] = refl
      by (root ∷ more) = (let io = placing_same Io 256 root in let memory = placing_same Memory 256 root in λ i. first_lack (io i) (first_lack (memory i) None))

  pub got_same : (space : Space) (f : Function) → got_place q s j space f ≡ got_place q s k space f
  got_same space f = ap (λ place. list_any (λ r. are_same_space space (part_space r) && is_some (place r)) (changing q s f)) (fun_ext new_same)

  live_same : (space : Space) (depth : ℕ) (f : Function) → is_live_within q s j space depth f ≡ is_live_within q s k space depth f
  unfolding is_live_within
  live_same space zero f = refl
  live_same space (suc depth) f =
      let live = fun_ext (live_same space depth) in
      let got = got_same space f in
      λ i. (not (are_same_space space Io && has_left q s f)
      && (is_space_on f space || got i || (is_bridge f && list_any (λ g. g.slot.bus == secondary f && live i g) s)))
      && (has_own q s space f || (is_bridge f && list_any (λ g. g.slot.bus == secondary f && live i g) s))

  pub enabled_same : (space : Space) (f : Function) → is_enabled_in q s j space f ≡ is_enabled_in q s k space f
  enabled_same space f =
      let live = fun_ext (live_same space 256) in
      let got = got_same space f in
      λ i. not (are_same_space space Io && has_left q s f)
      && (is_space_on f space || got i || (is_bridge f && list_any (λ g. g.slot.bus == secondary f && live i g) s))

  -- what stays is kept as soundly
  pub sound_same : IsSoundKept q s k → IsWished q s j → IsSoundKept q s j
  sound_same sound wished = record {
    apart = record { stands = sound.apart.stands; apart = sound.apart.apart; lists = sound.apart.lists; windows = sound.apart.windows };
    holds = sound.holds;
    plain = sound.plain;
    grown = sound.grown;
    places = sound.places;
    off = sound.off;
    wished = wished;
  }

  pub can_same : CanSettle q s k → IsWished q s j → CanSettle q s j
  can_same can wished = record {
    lists = can.lists;
    high = can.high;
    system = can.system;
    nested = can.nested;
    profile = can.profile;
    chains = can.chains;
    sound = sound_same can.sound wished;
    room = lacking_same ∙ can.room;
  }

module _ (q : Request) (s : System) (k : Kept) where
  no_window_wishes : WishesNothing k → (r : FunctionPart) (w : Range) → k.wished r ≡ Some w → ⊥
  no_window_wishes none r w wished =
      let differ : None ≡ Some w = sym (ap (λ wish. wish r) none) ∙ wished in
      let no : ⊥ = cc in no

  pub none_wished : WishesNothing k → IsWished q s k
  none_wished none = record {
    windows = λ c b w listed bridge wished. absurd (no_window_wishes none (window_part c b) w wished);
    plain = λ r listed there plain. ap (λ wish. wish r) none;
  }

module _ (q : Request) (s : System) (k : Kept) (can : CanSettle q s k) where
  -- so all can be settled without wishes
  pub can_unwished : CanSettle q s (unwished k)
  can_unwished = can_same q s k no_wish can (none_wished q s (unwished k) refl)
