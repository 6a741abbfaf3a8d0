-- The parts of a system with what they lead to, and whether they can stand.
use Rattle.std.specs.Prelude.{◌≡◌, ℕ, ◌<◌, Bool, ◌&&◌, ◌||◌, not, IsFalse, List, length, slice_index_or}
use Rattle.std.specs.List.{All, AllPairs, Contains, list_any}
use Rattle.pci_spec.specs.System.{System}
use Rattle.judge_spec.specs.Told.{ToldRange}
use Rattle.judge_spec.specs.ToldClaims.{is_marked_held}
use Rattle.judge_spec.specs.ToldRegion.{told_regions}
use Rattle.settle_spec.specs.Lists.{Request}
use Rattle.settle_spec.specs.Parts.{FunctionPart}
use Rattle.settle_spec.specs.Stands.{is_line_on, leads_to_range, leads_to_told, leads_to_one_on}
use Rattle.pci_kept.specs.declared.region.Region.{Region}
use Rattle.pci_kept.specs.Known.{region_value, AreParts}

-- whether a part leads to a told range that is on, or to any
abbrev pub leads_to_lines : Bool → Request → System → FunctionPart → Bool
leads_to_lines any q s r =
    list_any (λ x. (any || is_line_on q s x) && leads_to_range q s r x) (told_regions q.told)

-- the indexes of told ranges that a part can lead to, rising: of all that aren't held
pub record AreReachable (ranges : List ToldRange) (indexes : List ℕ) : Type 0 where
  pub rising : AllPairs (λ j k. j < k) indexes
  pub within : All (λ k. k < length ranges) indexes
  pub all : (k : ℕ) (t : ToldRange) → k < length ranges
      → IsFalse (is_marked_held (slice_index_or ranges k t).mark) → Contains indexes k

-- a part with what is noted of it
abbrev pub noted : Bool → Bool → Region → Region
noted leads can_stand r = record {
  function = r.function;
  bus = r.bus;
  level = r.level;
  fixed = r.fixed;
  on = r.on;
  leads = leads;
  can_stand = can_stand;
  part = r.part;
  space = r.space;
  class = r.class;
  range = r.range;
}

-- it is known of a part whether it leads to a told range that is on, and whether lines and a request for new places let it stand
pub record IsLeading (q : Request) (s : System) (r : Region) : Type 0 where
  pub leads : r.leads ≡ leads_to_one_on q s (region_value s r)
  pub can : r.can_stand ≡ (leads_to_told q s (region_value s r) || not q.anew)

-- the parts of a system, with that
pub record AreKnownParts (q : Request) (s : System) (rs : List Region) : Type 0 where
  pub parts : AreParts q s rs
  pub leads : All (IsLeading q s) rs
