-- The last host bus among the folders of a path.
use Rattle.std.proofs.Common.{◌≡◌, ℕ, List, [], ◌∷◌, ◌++◌, Option, None, Some, Bor, MatchOption, IfSome, codes, refl, sym, ◌∙◌, ap, subst}
use Rattle.std.specs.Str.Pattern.{FindsTextPrefix, StripsPrefix}
use Rattle.std.proofs.lemmas.List.{append_assoc, append-nil}
use Rattle.std.proofs.lemmas.List.Elements.{All-nil, All-push}
use Rattle.pci_here.specs.declared.bus.Bus.{Bus}
use Rattle.pci_here.specs.Bus.{IsBusName}
use Rattle.pci_here.specs.Link.{IsHostFolder, IsNoHostFolder, IsLastIn, folders}
use Rattle.pci_here.proofs.Names.{stripped, strip_there}

pub folder_name : (folder : List ℕ) (b : Bus) → IsHostFolder folder b
    → (cut : Option (Bor (List ℕ))) → MatchOption cut (FindsTextPrefix (codes "pci") folder None) (λ x. StripsPrefix (FindsTextPrefix (codes "pci")) folder x.now)
    → MatchOption cut ⊥ (λ x. IsBusName x.now b)
folder_name folder b is None cut = stripped (codes "pci") folder None cut is.name is.text
folder_name folder b is (Some x) cut =
    let same : x.now ≡ is.name = stripped (codes "pci") folder (Some x) cut is.name is.text in
    subst (λ w. IsBusName w b) (sym same) is.is

-- some folders of a path were looked at, others are left
pub record HasSeen (path : List ℕ) (left : List (List ℕ)) (found : Option ℕ) : Type 0 where
  pub done : List (List ℕ)
  pub parts : folders path ≡ done ++ left
  pub last : IsLastIn done found

pub seen_none : (path : List ℕ) → HasSeen path (folders path) None
seen_none path = record { done = []; parts = refl; last = All-nil IsNoHostFolder }

pub last_kept : (done : List (List ℕ)) (folder : List ℕ) (found : Option ℕ) → IsNoHostFolder folder → IsLastIn done found → IsLastIn (done ++ folder ∷ []) found
last_kept done folder None none last = All-push IsNoHostFolder done folder last none
last_kept done folder (Some number) none last = record {
  bus = last.bus;
  before = last.before;
  folder = last.folder;
  behind = last.behind ++ folder ∷ [];
  parts = ap (λ t. t ++ folder ∷ []) last.parts ∙ append_assoc last.before (last.folder ∷ last.behind) (folder ∷ []);
  is = last.is;
  last = All-push IsNoHostFolder last.behind folder last.last none;
  of = last.of;
}

pub last_here : (done : List (List ℕ)) (folder : List ℕ) (b : Bus) → IsHostFolder folder b → IsLastIn (done ++ folder ∷ []) (Some b.number)
last_here done folder b is =
    record { bus = b; before = done; folder = folder; behind = []; parts = refl; is = is; last = All-nil IsNoHostFolder; of = refl }

pub seen_more : (path folder : List ℕ) (left more : List (List ℕ)) (found next : Option ℕ) → left ≡ folder ∷ more
    → ((done : List (List ℕ)) → IsLastIn done found → IsLastIn (done ++ folder ∷ []) next)
    → HasSeen path left found → HasSeen path more next
seen_more path folder left more found next first step seen = record {
  done = seen.done ++ folder ∷ [];
  parts = seen.parts ∙ ap (λ t. seen.done ++ t) first ∙ sym (append_assoc seen.done (folder ∷ []) more);
  last = step seen.done seen.last;
}

pub seen_all : (path : List ℕ) (left : List (List ℕ)) (found : Option ℕ) → left ≡ [] → HasSeen path left found → IsLastIn (folders path) found
seen_all path left found none seen =
    subst (λ t. IsLastIn t found) (sym (seen.parts ∙ ap (λ t. seen.done ++ t) none ∙ append-nil seen.done)) seen.last

pub folder_there : (folder : List ℕ) (x : Bor (List ℕ)) (found : Option Bus) → StripsPrefix (FindsTextPrefix (codes "pci")) folder x.now
    → IfSome found (λ b. IsBusName x.now b) → IfSome found (λ b. IsHostFolder folder b)
folder_there folder x None strips names = tt
folder_there folder x (Some b) strips names = record { name = x.now; is = names; text = strip_there (codes "pci") folder x strips }
