-- Command lines with words by which functions are taken: `faults`, `map` and `settle` take a list of them, once, and the other tasks none.
use Rattle.std.proofs.Common.{◌≡◌, List, [], ◌∷◌, ◌==◌, Bool, true, false, codes, length, map, refl}
use Rattle.clap.specs.Words.{Text, fault_of}
use Rattle.clap.proofs.OnLiterals.{clap_on_literals}
use Rattle.pciplan_words.specs.CommandWords.{commands}

-- whether a line of a task with these words behind its two texts is taken
abbrev is_taken : Text → List Text → Bool
is_taken task options = length (fault_of commands (task ∷ codes "dump" ∷ codes "probe" ∷ options)) == 0

abbrev one_list : List Text
one_list = codes "--model" ∷ codes "power" ∷ []

abbrev pools : List Text
pools = codes "--io" ∷ codes "1000-1fff" ∷ codes "--mem" ∷ codes "e0000000-e00fffff" ∷ codes "--pref" ∷ codes "f0000000-f00fffff" ∷ []

two_take_it : map (λ task. is_taken task one_list) (codes "faults" ∷ codes "map" ∷ []) ≡ true ∷ true ∷ []
unfolding clap_on_literals
two_take_it = refl

others_refuse_it : map (λ task. is_taken task one_list) (codes "show" ∷ codes "check" ∷ codes "size" ∷ codes "probe" ∷ []) ≡ false ∷ false ∷ false ∷ false ∷ []
unfolding clap_on_literals
others_refuse_it = refl

beside_pools : map (λ task. is_taken task (codes "--model" ∷ codes "power" ∷ pools)) (codes "plan" ∷ codes "settle" ∷ []) ≡ false ∷ true ∷ []
unfolding clap_on_literals
beside_pools = refl

settle_takes_one : is_taken (codes "settle") (codes "--model" ∷ codes "power" ∷ codes "--model" ∷ codes "ide" ∷ pools) ≡ false
unfolding clap_on_literals
settle_takes_one = refl
