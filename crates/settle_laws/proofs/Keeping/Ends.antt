-- Where a part ends with the room that is kept free: in the lists of its root, in the window over it, and apart.
use Rattle.std.proofs.Common.{◌≡◌, inl, inr, true, false, arith, refl, sym, ◌∙◌, ap, subst, Option, None, Some}
use Rattle.std.specs.List.{Contains}
use Rattle.std.specs.Option.{option_or}
use Rattle.std.proofs.lemmas.Bool.{and_from}
use Rattle.pci_spec.specs.Decoded.{Range}
use Rattle.pci_spec.specs.System.{System, Function, Part, Bar, Rom, Window, has_part, is_window, space_of}
use Rattle.pci_spec.specs.Bus.{are_siblings, is_root, LeadsTo}
use Rattle.plan_spec.specs.Planning.Layout.{IsInside, LieApart, AreBeside, AreTwo}
use Rattle.settle_spec.specs.Lists.{Request}
use Rattle.settle_spec.specs.Parts.{FunctionPart, class_in, are_same_space}
use Rattle.settle_spec.specs.Stands.{rank, is_in_lists, window_part}
use Rattle.settle_spec.specs.Kept.{Kept}
use Rattle.settle_spec.specs.Keeping.Places.{new_place}
use Rattle.settle_spec.specs.Wishes.{place_then}
use Rattle.settle_laws.specs.Keeping.PlacesLaws.{CanSettle, end_range}
use Rattle.settle_laws.proofs.Held.{same_itself}
use Rattle.settle_laws.proofs.Keeping.InLists.{placed_on_root}
use Rattle.settle_laws.proofs.Keeping.InWindows.{placed_nowhere, placed_in_window, placed_apart, siblings_of, two_ranks}

module _ (q : Request) (s : System) (k : Kept) where
  pub unwished_end : (r : FunctionPart) → k.wished r ≡ None → end_range q s k r ≡ place_then q s k r
  unwished_end r none = ap (λ o. option_or o (place_then q s k r)) none

  pub wished_end : (r : FunctionPart) (w : Range) → k.wished r ≡ Some w → end_range q s k r ≡ Some w
  wished_end r w wished = ap (λ o. option_or o (place_then q s k r)) wished

  -- a part that ends nowhere has no place, doesn't stay, and has no room that is kept free
  pub record IsNowhere (r : FunctionPart) : Type 0 where
    pub unwished : k.wished r ≡ None
    pub moves : k.stays r ≡ false
    pub none : new_place q s k r ≡ None

  pub ends_nowhere : (r : FunctionPart) → end_range q s k r ≡ None → IsNowhere r
  ends_nowhere r none = by (k.wished r) refl
    where
      by : (o : Option Range) → k.wished r ≡ o → IsNowhere r
      by None e = (let placed = placed_nowhere q s k r (sym (unwished_end r e) ∙ none) in record { unwished = e; moves = placed.0; none = placed.1 })
      by (Some w) e = (let no : Some w ≡ None = sym (wished_end r w e) ∙ none in absurd (let differ : ⊥ = cc in differ))

module _ (q : Request) (s : System) (k : Kept) (can : CanSettle q s k) where
  -- a BAR or ROM ends as its place says
  pub plain_end : (f : Function) (p : Part) → Contains s f → has_part f p ≡ true → is_window p ≡ false → end_range q s k record { function = f; part = p } ≡ place_then q s k record { function = f; part = p }
  plain_end f p listed there plain = unwished_end q s k record { function = f; part = p } (can.sound.wished.plain record { function = f; part = p } listed there plain)

  pub no_plain_wish : (f : Function) (p : Part) → Contains s f → has_part f p ≡ true → is_window p ≡ false → (w : Range) → k.wished record { function = f; part = p } ≡ Some w → ⊥
  no_plain_wish f p listed there plain w wished =
      let differ : None ≡ Some w = sym (can.sound.wished.plain record { function = f; part = p } listed there plain) ∙ wished in
      let no : ⊥ = cc in no

  -- ---- in a window

  -- the window of a bridge around addresses
  pub record IsInWindow (f : Function) (p : Part) (b : Function) (t : Range) : Type 0 where
    pub w : Range
    pub ends : end_range q s k (window_part (class_in q s f p) b) ≡ Some w
    pub inside : IsInside t w

  within : (t u v : Range) → IsInside t u → IsInside u v → IsInside t v
  within t u v (first, last) (from, to) = (omega (arith, first, from), omega (arith, last, to))

  -- a window has what it has without wishes
  over_place : (f b : Function) (p : Part) (t v : Range) → LeadsTo s b f.slot.bus → place_then q s k (window_part (class_in q s f p) b) ≡ Some v → IsInside t v → IsInWindow f p b t
  over_place f b p t v leads placed inside = by (k.wished over) refl
    where
      over : FunctionPart
      over = window_part (class_in q s f p) b

      by : (o : Option Range) → k.wished over ≡ o → IsInWindow f p b t
      by None e = record { w = v; ends = unwished_end q s k over e ∙ placed; inside = inside }
      by (Some w) e = record {
        w = w;
        ends = wished_end q s k over w e;
        inside = within t v w inside ((can.sound.wished.windows (class_in q s f p) b w leads.0 leads.1 e).holds v placed);
      }

  -- The law: what ends behind a bridge does so in the bridge's window of its class.
  pub in_window : (f b : Function) (p : Part) → Contains s f → has_part f p ≡ true → LeadsTo s b f.slot.bus → (t : Range) → end_range q s k record { function = f; part = p } ≡ Some t → IsInWindow f p b t
  in_window f b p listed there leads t ends = by (k.wished r) refl
    where
      r : FunctionPart
      r = record { function = f; part = p }

      by_wish : (p : Part) → has_part f p ≡ true → (w : Range) → k.wished record { function = f; part = p } ≡ Some w → IsInWindow f p b w
      by_wish (Bar n) there w wished = absurd (no_plain_wish f (Bar n) listed there refl w wished)
      by_wish Rom there w wished = absurd (no_plain_wish f Rom listed there refl w wished)
      by_wish (Window c) there w wished = (let over = (can.sound.wished.windows c f w listed there wished).over b leads in record { w = over.0; ends = over.1; inside = over.2 })

      by : (o : Option Range) → k.wished r ≡ o → IsInWindow f p b t
      by None e = (let over = placed_in_window q s k can f b p listed there leads t (sym (unwished_end q s k r e) ∙ ends) in over_place f b p t over.w leads over.ends over.inside)
      by (Some w) e = (let is : Some w ≡ Some t = sym (wished_end q s k r w e) ∙ ends in let same : w ≡ t = cc in subst (IsInWindow f p b) same (by_wish p there w e))

  -- ---- on a root

  -- The law: what ends on a root lies in a range of the lists that the root has.
  pub on_root : (f : Function) (p : Part) → Contains s f → has_part f p ≡ true → is_root q.roots f.slot.bus ≡ true → (u : Range) → end_range q s k record { function = f; part = p } ≡ Some u → is_in_lists q f.slot.bus u (space_of f p) ≡ true
  on_root f p listed there root u ends = by (k.wished r) refl
    where
      r : FunctionPart
      r = record { function = f; part = p }

      by_wish : (p : Part) → has_part f p ≡ true → (w : Range) → k.wished record { function = f; part = p } ≡ Some w → is_in_lists q f.slot.bus w (space_of f p) ≡ true
      by_wish (Bar n) there w wished = absurd (no_plain_wish f (Bar n) listed there refl w wished)
      by_wish Rom there w wished = absurd (no_plain_wish f Rom listed there refl w wished)
      by_wish (Window c) there w wished = (can.sound.wished.windows c f w listed there wished).lists root

      by : (o : Option Range) → k.wished r ≡ o → is_in_lists q f.slot.bus u (space_of f p) ≡ true
      by None e = placed_on_root q s k can f p listed there root u (sym (unwished_end q s k r e) ∙ ends)
      by (Some w) e = (let is : Some w ≡ Some u = sym (wished_end q s k r w e) ∙ ends in let same : w ≡ u = cc in subst (λ v. is_in_lists q f.slot.bus v (space_of f p) ≡ true) same (by_wish p there w e))

  -- ---- apart

  other_way : (t u : Range) → LieApart t u → LieApart u t
  other_way t u (inl before) = inr before
  other_way t u (inr after) = inl after

  -- a window with room that is kept free is off each other part
  wish_apart : (f g : Function) (p r : Part) → Contains s f → Contains s g → has_part f p ≡ true → has_part g r ≡ true → space_of f p ≡ space_of g r → AreBeside q.roots f g
      → (rank record { function = f; part = p } ≡ rank record { function = g; part = r } → ⊥) → (w u : Range) → k.wished record { function = f; part = p } ≡ Some w → end_range q s k record { function = g; part = r } ≡ Some u → LieApart w u
  wish_apart f g (Bar n) r in_f in_g there_p there_r spaces beside differ w u wished ends = absurd (no_plain_wish f (Bar n) in_f there_p refl w wished)
  wish_apart f g Rom r in_f in_g there_p there_r spaces beside differ w u wished ends = absurd (no_plain_wish f Rom in_f there_p refl w wished)
  wish_apart f g (Window c) r in_f in_g there_p there_r spaces beside differ w u wished ends =
      let space = space_of f (Window c) in
      (can.sound.wished.windows c f w in_f there_p wished).apart record { function = g; part = r } u in_g there_r
      (and_from (are_siblings q.roots f.slot.bus g.slot.bus) (are_same_space space (space_of g r)) (siblings_of q s k can f g beside) (ap (are_same_space space) (sym spaces) ∙ same_itself space))
      (λ e. differ (sym e)) ends

  -- The law: two parts of a space that are beside each other end apart.
  pub are_apart : (f g : Function) (p r : Part) → Contains s f → Contains s g → has_part f p ≡ true → has_part g r ≡ true → space_of f p ≡ space_of g r → AreBeside q.roots f g → AreTwo f p g r
      → (t u : Range) → end_range q s k record { function = f; part = p } ≡ Some t → end_range q s k record { function = g; part = r } ≡ Some u → LieApart t u
  are_apart f g p r in_f in_g there_p there_r spaces beside two t u ends_t ends_u = by (k.wished x) (k.wished y) refl refl
    where
      x : FunctionPart
      x = record { function = f; part = p }

      y : FunctionPart
      y = record { function = g; part = r }

      differ : rank x ≡ rank y → ⊥
      differ = two_ranks q s k can f g p r in_f in_g there_p there_r two

      back : AreBeside q.roots f g → AreBeside q.roots g f
      back (inl same) = inl (sym same)
      back (inr (first, second)) = inr (second, first)

      by : (o n : Option Range) → k.wished x ≡ o → k.wished y ≡ n → LieApart t u
      by (Some w) n e d = (let is : Some w ≡ Some t = sym (wished_end q s k x w e) ∙ ends_t in let same : w ≡ t = cc in subst (λ v. LieApart v u) same (wish_apart f g p r in_f in_g there_p there_r spaces beside differ w u e ends_u))
      by None (Some w) e d =
          let is : Some w ≡ Some u = sym (wished_end q s k y w d) ∙ ends_u in
          let same : w ≡ u = cc in
          subst (LieApart t) same (other_way w t (wish_apart g f r p in_g in_f there_r there_p (sym spaces) (back beside) (λ e. differ (sym e)) w t d ends_t))
      by None None e d = placed_apart q s k can f g p r in_f in_g there_p there_r spaces beside two t u (sym (unwished_end q s k x e) ∙ ends_t) (sym (unwished_end q s k y d) ∙ ends_u)
