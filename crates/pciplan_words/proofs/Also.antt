-- Command lines with a text of told ranges: `faults`, `map` and `settle` take one, once, and the other tasks none.
use Rattle.std.proofs.Common.{◌≡◌, List, [], ◌∷◌, ◌==◌, Bool, true, false, codes, length, map, refl}
use Rattle.clap.specs.Words.{Text, fault_of}
use Rattle.clap.proofs.OnLiterals.{clap_on_literals}
use Rattle.pciplan_words.specs.CommandWords.{commands}

-- whether a line of a task with these words behind its two texts is taken
abbrev is_taken : Text → List Text → Bool
is_taken task options = length (fault_of commands (task ∷ codes "dump" ∷ codes "probe" ∷ options)) == 0

abbrev one_text : List Text
one_text = codes "--also" ∷ codes "told" ∷ []

two_take_it : map (λ task. is_taken task one_text) (codes "faults" ∷ codes "map" ∷ []) ≡ true ∷ true ∷ []
unfolding clap_on_literals
two_take_it = refl

others_refuse_it : map (λ task. is_taken task one_text) (codes "show" ∷ codes "check" ∷ codes "size" ∷ codes "probe" ∷ []) ≡ false ∷ false ∷ false ∷ false ∷ []
unfolding clap_on_literals
others_refuse_it = refl

not_twice : is_taken (codes "faults") (codes "--also" ∷ codes "one" ∷ codes "--also" ∷ codes "two" ∷ []) ≡ false
unfolding clap_on_literals
not_twice = refl

it_has_a_path : is_taken (codes "map") (codes "--also" ∷ []) ≡ false
unfolding clap_on_literals
it_has_a_path = refl

abbrev pools : List Text
pools = codes "--io" ∷ codes "1000-1fff" ∷ codes "--mem" ∷ codes "e0000000-e00fffff" ∷ codes "--pref" ∷ codes "f0000000-f00fffff" ∷ []

pools_alone : map (λ task. is_taken task pools) (codes "plan" ∷ codes "settle" ∷ []) ≡ true ∷ true ∷ []
unfolding clap_on_literals
pools_alone = refl

beside_pools : map (λ task. is_taken task (codes "--also" ∷ codes "told" ∷ pools)) (codes "plan" ∷ codes "settle" ∷ []) ≡ false ∷ true ∷ []
unfolding clap_on_literals
beside_pools = refl

settle_takes_one : is_taken (codes "settle") (codes "--also" ∷ codes "one" ∷ codes "--also" ∷ codes "two" ∷ pools) ≡ false
unfolding clap_on_literals
settle_takes_one = refl
