-- The first free place in ranges of addresses, some of which are taken.
use Rattle.std.specs.Prelude.{ℕ, ◌+◌, ◌%◌, ◌≤◌, ◌⊎◌, ◌==◌, nat_lt, nat_le, min, Bool, ◌&&◌, ◌||◌, if◌then◌else◌, IsTrue, IsFalse, List, [], ◌∷◌, map, Option, None, Some}
use Rattle.std.specs.List.{list_all, filter, fold}
use Rattle.pci_spec.specs.Decoded.{Range}
use Rattle.plan_spec.specs.Plan.{raised_to}
use Rattle.plan_spec.specs.Place.{range_from}

-- so many addresses from a multiple of an alignment on
pub record Extent : Type 0 where
  pub size : ℕ
  pub alignment : ℕ
  -- the highest address that it may have
  pub highest : ℕ

-- whether it may lie above 4 GB
abbrev pub is_high : Extent → Bool
is_high e = nat_lt 0xffff_ffff e.highest

-- whether two ranges share no address
abbrev pub ranges_are_apart : Range → Range → Bool
ranges_are_apart r q = nat_lt r.last q.first || nat_lt q.last r.first

-- whether none of the addresses from a on is taken
abbrev pub is_free_from : List Range → Extent → ℕ → Bool
is_free_from taken e a = list_all (ranges_are_apart (range_from a e.size)) taken

-- whether they end by the last address of a range, and by the highest that they may have
abbrev pub ends_by : Range → Extent → ℕ → Bool
ends_by r e a =
    nat_le (range_from a e.size).last r.last
    && nat_le (range_from a e.size).last e.highest

-- whether a is a free multiple of the alignment from an address on
abbrev pub is_spot : ℕ → List Range → Extent → ℕ → Bool
is_spot low taken e a = a % e.alignment == 0 && (nat_le low a && is_free_from taken e a)

-- whether an extent can be placed at an address of a range
abbrev pub is_place : Range → List Range → Extent → ℕ → Bool
is_place r taken e a = is_spot r.first taken e a && ends_by r e a

-- ---- the first one

-- the least of some numbers
abbrev pub least_number : List ℕ → ℕ
least_number [] = 0
least_number (a ∷ more) = fold min a more

-- where the first can be: at the beginning, or behind an address that is taken
abbrev pub candidates : ℕ → List Range → Extent → List ℕ
candidates low taken e =
    map (raised_to e.alignment) (low ∷ map (λ (t : Range). t.last + 1) taken)

-- the least free multiple of the alignment from an address on
abbrev pub first_spot : ℕ → List Range → Extent → ℕ
first_spot low taken e = least_number (filter (is_spot low taken e) (candidates low taken e))

-- the first place in a range
abbrev pub first_place_in : Range → List Range → Extent → Option ℕ
first_place_in r taken e =
    if ends_by r e (first_spot r.first taken e) then Some (first_spot r.first taken e) else None

abbrev pub else_at : Option ℕ → Option ℕ → Option ℕ
else_at None other = other
else_at (Some a) other = Some a

-- the first place in the first range that has one
abbrev pub first_place : List Range → List Range → Extent → Option ℕ
first_place [] taken e = None
first_place (r ∷ ranges) taken e = else_at (first_place_in r taken e) (first_place ranges taken e)

-- ---- the same, address by address

-- a is the least free multiple of the alignment from an address on
pub record IsLeastSpot (low : ℕ) (taken : List Range) (e : Extent) (a : ℕ) : Type 0 where
  pub free : IsTrue (is_spot low taken e a)
  pub least : (b : ℕ) → IsTrue (is_spot low taken e b) → a ≤ b

-- a range has no place
abbrev pub HasNoPlace : Range → List Range → Extent → Type 0
HasNoPlace r taken e = (b : ℕ) → IsFalse (is_place r taken e b)

-- a is the least place in a range
pub record IsFirstPlaceIn (r : Range) (taken : List Range) (e : Extent) (a : ℕ) : Type 0 where
  pub place : IsTrue (is_place r taken e a)
  pub least : (b : ℕ) → IsTrue (is_place r taken e b) → a ≤ b

-- it is that of the first range that has one
abbrev pub IsFirstPlace : List Range → List Range → Extent → ℕ → Type 0
IsFirstPlace [] taken e a = ⊥
IsFirstPlace (r ∷ ranges) taken e a =
    IsFirstPlaceIn r taken e a ⊎ (HasNoPlace r taken e × IsFirstPlace ranges taken e a)
