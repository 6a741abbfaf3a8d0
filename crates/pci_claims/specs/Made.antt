-- Things that are made of others one by one.
use Rattle.std.specs.Prelude.{ℕ, ◌<◌, List}
use Rattle.std.specs.List.{AllPairs, Contains}

-- one of each that has one, in their order where the others rise
pub record AreOneEach {X Y : Type 0} (IsOf : X → Y → Type 0) (HasOne : X → Type 0) (number : X → ℕ)
    (place : Y → ℕ) (xs : List X) (made : List Y) : Type 0 where
  pub each : (y : Y) → Contains made y → (x : X) × Contains xs x × IsOf x y
  pub complete : (x : X) → Contains xs x → HasOne x → (y : Y) × Contains made y × IsOf x y
  pub rising : AllPairs (λ w x. number w < number x) xs → AllPairs (λ y z. place y < place z) made
