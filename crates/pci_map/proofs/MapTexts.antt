-- The text of a map, of its parts.
use Rattle.std.proofs.Common.{◌≡◌, ℕ, List, [], ◌++◌, ap, ◌∙◌}
use Rattle.std.specs.List.{flat_map, range_with_len}
use Rattle.std.proofs.lemmas.List.{append_assoc}
use Rattle.pci_spec.specs.System.{System}
use Rattle.judge_spec.specs.Given.{Given}
use Rattle.judge_spec.specs.ToldClaims.{Told}
use Rattle.judge_spec.specs.Map.{Map}
use Rattle.judge_spec.specs.MapText.{root_text, outside_text, unreached_text, map_off_text, IsMapText}
use Rattle.pci_map.specs.Buses.{AreRootsTold}
use Rattle.pci_map.specs.Asides.{AreAsidesTold}

pub map_of : (told : Told) (given : Given) (roots : List ℕ) (s : System) (empty first second text : List ℕ) → empty ≡ [] → AreRootsTold told given roots s (range_with_len 0 256) empty first
    → AreAsidesTold told given roots s first second → text ≡ second ++ map_off_text told s → IsMapText told given roots s text
map_of told given roots s empty first second text none all asides off =
    let m : Map = record { roots = all.written; outside = asides.outside; unreached = asides.unreached } in
    let on_roots = flat_map (root_text given) all.written in
    let outside = outside_text given asides.outside in
    let left = unreached_text given asides.unreached in record {
      m = m;
      is = record { buses = all.buses; each = all.each; outside = asides.are_outside; left = asides.are_left };
      says = off
          ∙ ap (λ t. t ++ map_off_text told s) (asides.text ∙ ap (λ t. t ++ (outside ++ left)) (all.text ∙ ap (λ t. t ++ on_roots) none))
          ∙ append_assoc on_roots (outside ++ left) (map_off_text told s)
          ∙ ap (λ t. on_roots ++ t) (append_assoc outside left (map_off_text told s));
    }
