-- Reading a function: its troubles, and what is taken of it.
use Rattle.std.proofs.Common.{◌≡◌, ℕ, ◌+◌, ◌<◌, List, ◌∷◌, ◌++◌, length, get_or, take, drop, Option, None, Some, IfSome, inl, inr, sym, ◌∙◌, ap, subst}
use Rattle.std.specs.List.{All}
use Rattle.std.proofs.lemmas.List.{take-append-drop, drop_more}
use Rattle.std.proofs.lemmas.List.Elements.{All-more}
use Rattle.pci_here.specs.Place.{FunctionPlace}
use Rattle.pci_here.specs.Shown.{Shown, IsNotHad, IsNoFront}
use Rattle.pci_here.specs.Functions.{IsFunctionReadable, HasTrouble}
use Rattle.pci_here.specs.declared.trouble.Trouble.{Trouble}
use Rattle.pci_here.specs.declared.trouble.Trouble.TheVariants.{Memory, Unread, Short, NoRoot, TooMany}

pub virtual_trouble : (m : Shown) (p : FunctionPlace) (t : Trouble) → IsNotHad (m.is_virtual p) t → HasTrouble m p t
virtual_trouble m p Memory h = tt
virtual_trouble m p Unread h = inl h
virtual_trouble m p Short h = absurd h
virtual_trouble m p NoRoot h = absurd h
virtual_trouble m p TooMany h = absurd h

pub config_trouble : (m : Shown) (p : FunctionPlace) (t : Trouble) → IsNoFront (m.config p) t → HasTrouble m p t
config_trouble m p Memory h = tt
config_trouble m p Unread h = inr (inl h)
config_trouble m p Short h = inl h
config_trouble m p NoRoot h = absurd h
config_trouble m p TooMany h = absurd h

pub resource_trouble : (m : Shown) (p : FunctionPlace) (t : Trouble) → IsNotHad (m.resource p) t → HasTrouble m p t
resource_trouble m p Memory h = tt
resource_trouble m p Unread h = inr (inr (inl h))
resource_trouble m p Short h = absurd h
resource_trouble m p NoRoot h = absurd h
resource_trouble m p TooMany h = absurd h

pub link_trouble : (m : Shown) (p : FunctionPlace) (t : Trouble) → IsNotHad (m.link p) t → HasTrouble m p t
link_trouble m p Memory h = tt
link_trouble m p Unread h = inr (inr (inr h))
link_trouble m p Short h = absurd h
link_trouble m p NoRoot h = absurd h
link_trouble m p TooMany h = absurd h

pub shown_then : (o : Option Shown) (P Q : Shown → Type 0) → ((m : Shown) → P m → Q m) → IfSome o P → IfSome o Q
shown_then None P Q step p = tt
shown_then (Some m) P Q step p = step m p

pub shown_four : (o : Option Shown) (P Q R S T : Shown → Type 0) → ((m : Shown) → P m → Q m → R m → S m → T m)
    → IfSome o P → IfSome o Q → IfSome o R → IfSome o S → IfSome o T
shown_four None P Q R S T step p q r s = tt
shown_four (Some m) P Q R S T step p q r s = step m p q r s

-- what holds of every machine
pub shown_all : (o : Option Shown) (P : Shown → Type 0) → ((m : Shown) → P m) → IfSome o P
shown_all None P each = tt
shown_all (Some m) P each = each m

-- the first places, one more, and those behind it
pub parts_at : (places : List FunctionPlace) (i : ℕ) (p : FunctionPlace) → i < length places → get_or places i p ≡ p → places ≡ take i places ++ p ∷ drop (i + 1) places
parts_at places i p inside at =
    sym (take-append-drop i places) ∙ ap (λ l. take i places ++ l) (drop_more places i p inside ∙ ap (λ q. q ∷ drop (i + 1) places) at)

pub readable_more : (m : Shown) (places : List FunctionPlace) (i : ℕ) (p : FunctionPlace) → i < length places → get_or places i p ≡ p → IsFunctionReadable m p
    → All (IsFunctionReadable m) (take i places) → All (IsFunctionReadable m) (take (i + 1) places)
readable_more m places i p inside at here before = All-more (IsFunctionReadable m) places i p inside before (subst (IsFunctionReadable m) (sym at) here)

pub shown_three : (o : Option Shown) (P Q R S : Shown → Type 0) → ((m : Shown) → P m → Q m → R m → S m) → IfSome o P → IfSome o Q → IfSome o R → IfSome o S
shown_three None P Q R S step p q r = tt
shown_three (Some m) P Q R S step p q r = step m p q r
