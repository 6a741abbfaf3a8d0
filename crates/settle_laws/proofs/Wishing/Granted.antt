-- One wish after another: what is kept so far is kept free, and nothing else changes.
use Rattle.std.proofs.Common.{◌≡◌, ◌&&◌, ℕ, zero, suc, ◌*◌, ◌%◌, ◌^◌, ◌<◌, ◌≤◌, [], ◌∷◌, Bool, true, false, cond, arith, refl, sym, ◌∙◌, ap, subst, Option, None, Some, mul_comm}
use Rattle.std.specs.Bool.{◌==◌, nat_lt}
use Rattle.std.specs.List.{Contains}
use Rattle.std.proofs.Math.Nat.{pow-succ', mul_assoc}
use Rattle.std.proofs.lemmas.Bool.{and_parts, cond_both, eq-eqb, ltb-true}
use Rattle.pci_spec.specs.Window.{WindowKind, IoWindow, MemoryWindow, PrefetchWindow, has_window, page_size}
use Rattle.pci_spec.specs.System.{System, Function, is_bridge}
use Rattle.pci_spec.proofs.Members.{in_head, in_tail}
use Rattle.plan_spec.specs.Plan.{raised_to}
use Rattle.plan_spec.proofs.Planning.Placement.{IsMultiple, mod_of_multiple, multiple_of_mod, multiple_trans, power_pos}
use Rattle.plan_spec.proofs.Planning.Room.{raised}
use Rattle.settle_spec.specs.FirstPlace.{Extent}
use Rattle.settle_spec.specs.Lists.{Request, wanted_in}
use Rattle.settle_spec.specs.Spares.{has_slot, doubled_in, spare_extent}
use Rattle.settle_spec.specs.Stands.{window_part}
use Rattle.settle_spec.specs.Items.{highest_in, spare_of}
use Rattle.settle_spec.specs.Kept.{Kept, unwished}
use Rattle.settle_spec.specs.Wishes.{Spared, spared_behind, Granted, or_denied, with_spare_of, with_spares_of, with_all_spares, granted}
use Rattle.settle_spec.proofs.Grown.{some_page}
use Rattle.settle_laws.specs.Keeping.PlacesLaws.{CanSettle}
use Rattle.settle_laws.proofs.ItemForms.{doubled_power}
use Rattle.settle_laws.proofs.Wishing.Spare.{IsSpare, is_spared}

-- ---- the alignment of a spare

twice : (m size : ℕ) → 2 ^ suc m * size ≡ 2 ^ m * (2 * size)
twice m size = ap (λ n. n * size) (pow-succ' 2 m) ∙ ap (λ n. n * size) (mul_comm 2 (2 ^ m)) ∙ mul_assoc (2 ^ m) 2 size

doubled_keeps : (n times size : ℕ) → IsMultiple (doubled_in n times size) size
unfolding doubled_in
doubled_keeps n zero size = (1, omega arith)
doubled_keeps n (suc times) size =
    cond_both (n % (2 * size) == 0) (doubled_in n times (2 * size)) size (λ x. IsMultiple x size)
    (λ even. multiple_trans (doubled_in n times (2 * size)) (2 * size) size (doubled_keeps n times (2 * size)) (2, refl)) (λ odd. (1, omega arith))

-- each power of two that divides a number divides the greatest
doubled_holds : (n times m size : ℕ) → m ≤ times → IsMultiple n (2 ^ m * size) → IsMultiple (doubled_in n times size) (2 ^ m * size)
unfolding doubled_in
doubled_holds n times zero size le is = (let one : size ≡ 1 * size = omega arith in subst (IsMultiple (doubled_in n times size)) one (doubled_keeps n times size))
doubled_holds n zero (suc m) size le is = absurd (let no : ⊥ = omega (arith, le) in no)
doubled_holds n (suc times) (suc m) size le is =
    let of : IsMultiple n (2 ^ m * (2 * size)) = subst (IsMultiple n) (twice m size) is in
    let even : n % (2 * size) ≡ 0 = mod_of_multiple n (2 * size) (multiple_trans n (2 ^ m * (2 * size)) (2 * size) of (2 ^ m, refl)) in
    subst (λ t. IsMultiple (cond t (doubled_in n times (2 * size)) size) (2 ^ suc m * size)) (sym (eq-eqb (n % (2 * size)) 0 even))
    (subst (IsMultiple (doubled_in n times (2 * size))) (sym (twice m size)) (doubled_holds n times m (2 * size) (omega (arith, le)) of))

page_in : (c : WindowKind) (n : ℕ) → n % page_size c ≡ 0 → IsMultiple (doubled_in n 64 1) (page_size c)
page_in IoWindow n whole = doubled_holds n 64 12 1 (omega arith) (multiple_of_mod n 4096 whole)
page_in MemoryWindow n whole = doubled_holds n 64 20 1 (omega arith) (multiple_of_mod n 1048576 whole)
page_in PrefetchWindow n whole = doubled_holds n 64 20 1 (omega arith) (multiple_of_mod n 1048576 whole)

extent_is_spare : (c : WindowKind) (wanted highest : ℕ) → 0 < wanted → IsSpare c (spare_extent c wanted highest)
extent_is_spare c wanted highest some =
    let up = raised (page_size c) wanted (some_page c) in
    let from = up.from in
    record {
      some = omega (arith, from, some);
      whole = up.multiple;
      pages = page_in c (raised_to (page_size c) wanted) up.multiple;
      aligned = power_pos (doubled_in (raised_to (page_size c) wanted) 64 1) (doubled_power (raised_to (page_size c) wanted) 64 1 (0, refl));
    }

-- the spare of a request is of a bridge
pub record IsSpareOf (c : WindowKind) (b : Function) (e : Extent) : Type 0 where
  pub bridge : is_bridge b ≡ true
  pub spare : IsSpare c e

pub spare_is : (q : Request) (c : WindowKind) (b : Function) (e : Extent) → spare_of q c b ≡ Some e → IsSpareOf c b e
spare_is q c b e is = by (has_slot q b && nat_lt 0 (wanted_in q.spares c)) refl is
  where
    by : (t : Bool) → (has_slot q b && nat_lt 0 (wanted_in q.spares c)) ≡ t → cond t (Some (spare_extent c (wanted_in q.spares c) (highest_in c b.probe))) None ≡ Some e → IsSpareOf c b e
    by false wanted is = absurd (let no : ⊥ = cc in no)
    by true wanted is =
        let parts = and_parts (has_slot q b) (nat_lt 0 (wanted_in q.spares c)) wanted in
        let same : spare_extent c (wanted_in q.spares c) (highest_in c b.probe) ≡ e = cc in
        record {
          bridge = (and_parts _ (is_bridge b) parts.0).1;
          spare = subst (IsSpare c) same (extent_is_spare c (wanted_in q.spares c) (highest_in c b.probe) (ltb-true 0 (wanted_in q.spares c) parts.1));
        }

-- ---- one wish after another

module _ (q : Request) (s : System) (spare : WindowKind → Function → Option Extent) (fine : (c : WindowKind) (b : Function) (e : Extent) → spare c b ≡ Some e → IsSpareOf c b e) (k : Kept) where
  -- what is granted so far is kept free beside the same
  pub record IsGranted (g : Granted) : Type 0 where
    pub can : CanSettle q s g.kept
    pub alike : unwished g.kept ≡ unwished k

  pub one_wish : (c : WindowKind) (b : Function) → Contains s b → (g : Granted) → IsGranted g → (o : Option Extent) → spare c b ≡ o → IsGranted (with_spare_of q s c b o g)
  one_wish c b listed g is None at = is
  one_wish c b listed g is (Some e) at =
      cond_both (has_window c b.probe) (or_denied (window_part c b) g (spared_behind q s c b e g.kept)) g IsGranted (λ there. by (spared_behind q s c b e g.kept) refl) (λ absent. is)
    where
      by : (o : Option Spared) → spared_behind q s c b e g.kept ≡ o → IsGranted (or_denied (window_part c b) g o)
      by None found = record { can = is.can; alike = is.alike }
      by (Some x) found =
          let of = fine c b e at in
          let spared = is_spared q s c g.kept is.can b listed of.bridge e of.spare x found in
          record { can = spared.can; alike = spared.alike ∙ is.alike }

  pub wishes_of : (b : Function) → Contains s b → (g : Granted) → IsGranted g → IsGranted (with_spares_of q s spare b g)
  wishes_of b listed g is =
      one_wish PrefetchWindow b listed _ (one_wish MemoryWindow b listed _ (one_wish IoWindow b listed g is (spare IoWindow b) refl) (spare MemoryWindow b) refl) (spare PrefetchWindow b) refl

  pub all_wishes : (g : Granted) → IsGranted g → (t : System) → ((b : Function) → Contains t b → Contains s b) → IsGranted (with_all_spares q s spare g t)
  all_wishes g is [] in_s = is
  all_wishes g is (f ∷ more) in_s = wishes_of f (in_s f (in_head f more)) (with_all_spares q s spare g more) (all_wishes g is more (λ b has. in_s b (in_tail f more b has)))

-- The law: all that is granted is kept free, and all can be settled with it.
pub all_granted : (q asked : Request) (s : System) (k : Kept) → CanSettle q s k → IsGranted q s (spare_of asked) (spare_is asked) k (granted q s (spare_of asked) k)
all_granted q asked s k can = all_wishes q s (spare_of asked) (spare_is asked) k (record { kept = k; denied = [] }) record { can = can; alike = refl } s (λ b has. has)
