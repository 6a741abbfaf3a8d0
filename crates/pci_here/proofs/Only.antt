-- Each name, path and function shows one thing.
use Rattle.std.proofs.Common.{◌≡◌, ℕ, List, [], ◌∷◌, ◌++◌, get_or, take, drop, Some, codes, refl, sym, ◌∙◌, ap, subst, arith}
use Rattle.std.specs.List.{All, Contains}
use Rattle.std.proofs.lemmas.List.Elements.{All-contains, Contains-append_right}
use Rattle.pci_spec.specs.Text.{Block, hex_byte}
use Rattle.pci_spec.specs.SizesText.{SizesBlock}
use Rattle.pci_spec.proofs.SizesTexts.{same_back}
use Rattle.pci_spec.proofs.Spelling.{byte_same}
use Rattle.pciplan_lists.proofs.RangeWords.{no_colon, without_address}
use Rattle.pciplan_lists.proofs.Without.{cut_same}
use Rattle.pci_here.specs.Place.{FunctionPlace}
use Rattle.pci_here.specs.declared.bus.Bus.{Bus}
use Rattle.pci_here.specs.Bus.{IsBusName}
use Rattle.pci_here.specs.Link.{IsHostFolder, IsNoHostFolder, IsHostBus}
use Rattle.pci_here.specs.Log.{completed}
use Rattle.pci_here.specs.Resource.{AreFirstLines}
use Rattle.pci_here.specs.Shown.{Shown}
use Rattle.pci_here.specs.Functions.{IsShownBlockAt, IsSizesAt, IsRootAt}
use Rattle.pci_here.proofs.Resources.{lines_same}

number_same : (name : List ℕ) (a b : Bus) → IsBusName name a → IsBusName name b → a.number ≡ b.number
number_same name a b of_a of_b =
    let same = cut_same 58 of_a.word of_b.word (58 ∷ hex_byte a.number) (58 ∷ hex_byte b.number)
    (without_address 58 no_colon of_a.word a.domain of_a.domain.number) (without_address 58 no_colon of_b.word b.domain of_b.domain.number)
    (λ some. refl) (λ some. refl) (sym of_a.text ∙ of_b.text) in
    (byte_same a.number b.number [] [] (ap (λ t. drop 1 t ++ []) same.1)).0

folder_same : (folder : List ℕ) (a b : Bus) → IsHostFolder folder a → IsHostFolder folder b → a.number ≡ b.number
folder_same folder a b of_a of_b =
    let same : of_a.name ≡ of_b.name = same_back (codes "pci") of_a.name (codes "pci") of_b.name refl (sym of_a.text ∙ of_b.text) in
    number_same of_b.name a b (subst (λ w. IsBusName w a) same of_a.is) of_b.is

-- the last host bus of some folders is one
last_same : (before others : List (List ℕ)) (folder other : List ℕ) (behind rest : List (List ℕ)) (a b : Bus)
    → before ++ folder ∷ behind ≡ others ++ other ∷ rest → IsHostFolder folder a → IsHostFolder other b
    → All IsNoHostFolder behind → All IsNoHostFolder rest → a.number ≡ b.number
last_same [] [] folder other behind rest a b same of_a of_b none lacks =
    let first : folder ≡ other = ap (λ t. get_or t 0 []) same in
    folder_same other a b (subst (λ f. IsHostFolder f a) first of_a) of_b
last_same [] (x ∷ others) folder other behind rest a b same of_a of_b none lacks =
    let later : behind ≡ others ++ other ∷ rest = ap (λ t. drop 1 t) same in
    let has : Contains behind other = subst (λ t. Contains t other) (sym later) (Contains-append_right others (other ∷ rest) other (0, omega arith, refl)) in
    absurd (All-contains IsNoHostFolder behind other none has b of_b)
last_same (x ∷ before) [] folder other behind rest a b same of_a of_b none lacks =
    let later : before ++ folder ∷ behind ≡ rest = ap (λ t. drop 1 t) same in
    let has : Contains rest folder = subst (λ t. Contains t folder) later (Contains-append_right before (folder ∷ behind) folder (0, omega arith, refl)) in
    absurd (All-contains IsNoHostFolder rest folder lacks has a of_a)
last_same (x ∷ before) (y ∷ others) folder other behind rest a b same of_a of_b none lacks =
    last_same before others folder other behind rest a b (ap (λ t. drop 1 t) same) of_a of_b none lacks

host_bus_same : (path : List ℕ) (a b : ℕ) → IsHostBus path a → IsHostBus path b → a ≡ b
host_bus_same path a b of_a of_b =
    of_a.of ∙ last_same of_a.before of_b.before of_a.folder of_b.folder of_a.behind of_b.behind of_a.bus of_b.bus (sym of_a.parts ∙ of_b.parts) of_a.is of_b.is of_a.last of_b.last
    ∙ sym of_b.of

pub block_only : (m : Shown) (p : FunctionPlace) (b : Block) → IsShownBlockAt m p b → (c : Block) → IsShownBlockAt m p c → b ≡ c
block_only m p b is_b c is_c =
    let told : Some is_b.image.bytes ≡ Some is_c.image.bytes = sym is_b.image.is_told ∙ is_c.image.is_told in
    let bytes : is_b.image.bytes ≡ is_c.image.bytes = cc told in
    let image : b.image ≡ c.image = is_b.image.first ∙ ap (λ t. take 256 t) bytes ∙ sym is_c.image.first in
    let slot : b.slot ≡ c.slot = is_b.slot ∙ sym is_c.slot in
    let title : b.title ≡ c.title = is_b.title ∙ sym is_c.title in
    λ i. record { slot = slot i; title = title i; image = image i }

pub sizes_only : (m : Shown) (p : FunctionPlace) (s : SizesBlock) → IsSizesAt m p s → (t : SizesBlock) → IsSizesAt m p t → s ≡ t
sizes_only m p s is_s t is_t =
    let told : Some is_s.text ≡ Some is_t.text = sym is_s.resource ∙ is_t.resource in
    let text : is_s.text ≡ is_t.text = cc told in
    let first : is_s.first ≡ is_t.first = lines_same is_t.text is_s.first is_t.first (subst (λ w. AreFirstLines w is_s.first) text is_s.are_first) is_t.are_first in
    let lines : s.lines ≡ t.lines = is_s.lines ∙ ap (λ l. completed l (m.log p)) first ∙ sym is_t.lines in
    let slot : s.slot ≡ t.slot = is_s.slot ∙ sym is_t.slot in
    λ i. record { slot = slot i; lines = lines i }

pub root_only : (m : Shown) (p : FunctionPlace) (a : ℕ) → IsRootAt m p a → (b : ℕ) → IsRootAt m p b → a ≡ b
root_only m p a is_a b is_b =
    let told : Some is_a.path ≡ Some is_b.path = sym is_a.link ∙ is_b.link in
    let path : is_a.path ≡ is_b.path = cc told in
    host_bus_same is_b.path a b (subst (λ w. IsHostBus w a) path is_a.is) is_b.is
