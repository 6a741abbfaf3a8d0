-- The values that an object has under a name.
use Rattle.std.specs.Prelude.{ℕ, nat_eq, List, [], ◌∷◌, if◌then◌else◌}
use Rattle.std.specs.Cmp.Lexicographic.{pointwise}
use Rattle.json.specs.Json.{Json, null, boolean, number, string, array, object, Members, no_members, member}

abbrev pub values_in : List ℕ → Members → List Json
values_in name no_members = []
values_in name (member key value more) = if pointwise nat_eq key name then value ∷ values_in name more else values_in name more

abbrev pub values_named : List ℕ → Json → List Json
values_named name null = []
values_named name (boolean b) = []
values_named name (number digits) = []
values_named name (string text) = []
values_named name (array items) = []
values_named name (object members) = values_in name members
