-- What comes before a told range: it is an order, and nothing comes before itself.
use Rattle.std.proofs.Common.{◌≡◌, ◌≢◌, ℕ, ◌<◌, List, length, Bool, true, false, arith}
use Rattle.std.specs.Bool.{nat_lt}
use Rattle.std.specs.List.{Contains, filter}
use Rattle.std.proofs.lemmas.Bool.Decides.{nat_tests}
use Rattle.pci_spec.specs.System.{System}
use Rattle.judge_spec.specs.ToldRegion.{ToldRegion}
use Rattle.settle_spec.specs.Lists.{Request}
use Rattle.settle_spec.specs.Stands.{is_line_on, range_precedes}
use Rattle.settle_laws.proofs.Order.{first_trans, first_itself, first_else, fewer, not_all_pass}

module _ (q : Request) (s : System) where
  abbrev on : ToldRegion → Bool
  on x = is_line_on q s x

  less_trans : (a b c : ℕ) → nat_lt a b ≡ true → nat_lt b c ≡ true → nat_lt a c ≡ true
  less_trans a b c h k = grind (arith, nat_tests)

  less_itself : (a : ℕ) → nat_lt a a ≡ false
  less_itself a = grind (arith, nat_tests)

  less_else : (a b : ℕ) → a ≢ b → nat_lt a b ≡ false → nat_lt b a ≡ true
  less_else a b differ h = grind (arith, nat_tests)

  pub range_trans : (x y z : ToldRegion) → range_precedes q s x y ≡ true → range_precedes q s y z ≡ true → range_precedes q s x z ≡ true
  range_trans x y z h k =
      first_trans (on x) (on y) (on z) (nat_lt x.register y.register) (nat_lt y.register z.register) (nat_lt x.register z.register)
      (less_trans x.register y.register z.register) h k

  pub range_not_itself : (x : ToldRegion) → range_precedes q s x x ≡ false
  range_not_itself x = first_itself (on x) (nat_lt x.register x.register) (less_itself x.register)

  pub range_else : (x y : ToldRegion) → x.register ≢ y.register → range_precedes q s x y ≡ false → range_precedes q s y x ≡ true
  range_else x y differ h =
      first_else (on x) (on y) (nat_lt x.register y.register) (nat_lt y.register x.register) (less_else x.register y.register differ) h

  -- how many of a list come before one
  abbrev pub ranges_before : List ToldRegion → ToldRegion → ℕ
  ranges_before all x = length (filter (λ y. range_precedes q s y x) all)

  module _ (all : List ToldRegion) where
    pub ranges_fall : (y x : ToldRegion) → Contains all y → range_precedes q s y x ≡ true → ranges_before all y < ranges_before all x
    ranges_fall y x listed first =
        fewer (λ z. range_precedes q s z y) (λ z. range_precedes q s z x) all (λ z earlier. range_trans z y x earlier first) y listed (range_not_itself y) first

    pub few_ranges : (x : ToldRegion) → Contains all x → ranges_before all x < length all
    few_ranges x listed = not_all_pass (λ z. range_precedes q s z x) all x listed (range_not_itself x)
