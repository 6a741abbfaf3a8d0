-- What `here` writes of the domains of a machine.
use Rattle.std.specs.Prelude.{◌≡◌, ◌⊎◌, ℕ, List, [], ◌∷◌, ◌++◌, Bool, true, false, Option, None, Some, String, IfSome, codes, fold, length, map, nat_lt, string_bytes, if◌then◌else◌}
use Rattle.std.specs.List.{All, flat_map}
use Rattle.std.specs.Global.{Global}
use Rattle.std.specs.Io.KnownBytes.{Appends}
use Rattle.pci_dump.specs.Begun.{AppendsBeginning}
use Rattle.pci_here.specs.Domain.{IsDomain, IsNoDomain}
use Rattle.pci_here.specs.Places.{AreDomainsOf, HasNoDomains}
use Rattle.pci_here.specs.Log.{IsLogOf, Registers, no_register_told}
use Rattle.pci_here.specs.Place.{FunctionPlace, domain_text}
use Rattle.pci_here.specs.Shown.{IsNotHad, Shown, with_log}
use Rattle.pci_here.specs.Trouble.{trouble_status}
use Rattle.pci_here.specs.declared.domain.Domain.{Domain}
use Rattle.pci_here.specs.declared.trouble.Trouble.{Trouble}
use Rattle.pci_here.specs.declared.trouble.Trouble.TheVariants.{Memory}
use Rattle.pci_here.specs.declared.trouble.TroubleAt.{TroubleAt}
use Rattle.pciplan_tasks.specs.Answers.{Answer}
use Rattle.pciplan_front.specs.DomainAnswers.{IsAnswerToldIn}
use Rattle.pciplan_front.specs.HereAsked.{AskForNothing, IsHereAsked}
use Rattle.pciplan_front.specs.Went.{Went}
use Rattle.pciplan_front.specs.declared.here_asked.HereAsked.{HereAsked}
use Rattle.pciplan_front.specs.declared.here_asked.What.{What}

-- the line before what is printed of a domain, where there is one
abbrev pub heading : Bool → ℕ → List ℕ
heading true domain = codes "domain " ++ domain_text domain ++ 10 ∷ []
heading false domain = []

-- ---- one domain

-- what is printed of a domain that was read
pub record IsPrint (shown : Option Shown) (what : What) (headed : Bool) (domain : ℕ)
    (head : List ℕ) (told : Answer) : Type 0 where
  pub read : Domain
  pub is : IfSome shown (λ m. IsDomain m domain read)
  pub answer : IsAnswerToldIn what read told
  pub head_is : head ≡ heading headed domain

-- what is written of a domain, and its status
pub record Piece : Type 0 where
  pub domain : ℕ
  pub status : ℕ
  pub text : List ℕ

-- the domain was read, and what is asked for of it is written
pub record IsDomainRead (shown : Option Shown) (what : What) (headed : Bool) (p : Piece) : Type 0 where
  pub head : List ℕ
  pub told : Answer
  pub print : IsPrint shown what headed p.domain head told
  pub status : p.status ≡ told.status
  pub text : p.text ≡ head ++ told.text

-- why a domain isn't printed: the machine shows this trouble, or memory was refused; the status is the trouble's
pub record IsTrouble (shown : Option Shown) (domain status : ℕ) : Type 0 where
  pub at : TroubleAt
  pub is : IfSome shown (λ m. IsNoDomain m domain at)
  pub status_is : status ≡ trouble_status at.trouble

-- it couldn't be read, or memory was refused: nothing of it is written
pub record IsDomainUnread (shown : Option Shown) (p : Piece) : Type 0 where
  pub trouble : IsTrouble shown p.domain p.status
  pub text : p.text ≡ []

abbrev pub IsPiece : Option Shown → What → Bool → Piece → Type 0
IsPiece shown what headed p = IsDomainRead shown what headed p ⊎ IsDomainUnread shown p

pub record IsPieceOut (shown : Option Shown) (what : What) (headed : Bool) (domain status : ℕ)
    (IsWritten : List ℕ → Type 0) : Type 0 where
  pub text : List ℕ
  pub is : IsPiece shown what headed record { domain = domain; status = status; text = text }
  pub written : IsWritten text

-- ---- some domains, one after the other

-- a piece of each
pub record AreDomainPieces (shown : Option Shown) (what : What) (headed : Bool) (domains : List ℕ)
    (pieces : List Piece) : Type 0 where
  pub of_domains : map (λ p. p.domain) pieces ≡ domains
  pub each : All (IsPiece shown what headed) pieces

abbrev pub text_of_pieces : List Piece → List ℕ
text_of_pieces = flat_map (λ p. p.text)

abbrev pub greater : ℕ → ℕ → ℕ
greater a b = if nat_lt a b then b else a

-- the greatest status of some pieces
abbrev pub status_of_pieces : List Piece → ℕ
status_of_pieces pieces = fold greater 0 (map (λ p. p.status) pieces)

-- all of them are written
pub record AreDomainsTold (shown : Option Shown) (what : What) (headed : Bool) (domains : List ℕ)
    (status : ℕ) (IsWritten : List ℕ → Type 0) : Type 0 where
  pub pieces : List Piece
  pub are : AreDomainPieces shown what headed domains pieces
  pub status_is : status ≡ status_of_pieces pieces
  pub written : IsWritten (text_of_pieces pieces)

-- a beginning of the pieces of the first of them
pub record AreBegun (shown : Option Shown) (what : What) (headed : Bool) (domains : List ℕ)
    (IsWritten : List ℕ → Type 0) : Type 0 where
  pub first : List ℕ
  pub behind : List ℕ
  pub parts : domains ≡ first ++ behind
  pub pieces : List Piece
  pub are : AreDomainPieces shown what headed first pieces
  pub written : IsWritten (text_of_pieces pieces)

-- a write failed
pub record IsCutOff (shown : Option Shown) (what : What) (headed : Bool) (domains : List ℕ)
    (status : ℕ) (out : Went) : Type 0 where
  pub status_is : status ≡ 4
  pub failed : out.failed
  pub begun : AreBegun shown what headed domains (AppendsBeginning out.before out.after)

-- ---- what `here` did

-- the domains that are asked for: one, or all that are shown
abbrev pub AreAsked : Option Shown → Option ℕ → List ℕ → Type 0
AreAsked shown (Some domain) domains = domains ≡ domain ∷ []
AreAsked shown None domains = IfSome shown (λ m. AreDomainsOf m domains)

-- What is told of the machine in a folder, and what a file holds: where that is known. There is nothing of a file that
-- can't be read.
pub record Files : Type 0 where
  pub shown_in : List ℕ → Option Shown
  pub text_at : List ℕ → Option (Option (List ℕ))

abbrev pub files : (List ℕ → Option Shown) → (List ℕ → Option (Option (List ℕ))) → Files
files shown_in text_at = record { shown_in = shown_in; text_at = text_at }

-- what the log of the file tells that is asked for; nothing where none is
abbrev pub IsAskedLog : (List ℕ → Option (Option (List ℕ))) → Option (String Global) → (FunctionPlace → Registers) → Type 0
IsAskedLog text_at None log = (p : FunctionPlace) → log p ≡ no_register_told
IsAskedLog text_at (Some path) log =
    (text : List ℕ) × IfSome (text_at (string_bytes path)) (λ told. told ≡ Some text) × IsLogOf text log

-- why it can't be had: the file can't be read, or memory was refused
abbrev pub HasNoLog : (List ℕ → Option (Option (List ℕ))) → Option (String Global) → Trouble → Type 0
HasNoLog text_at None trouble = trouble ≡ Memory
HasNoLog text_at (Some path) trouble = IfSome (text_at (string_bytes path)) (λ told. IsNotHad told trouble)

-- the machine in the folder that is asked for, with what the log tells of it
abbrev pub shown_of : Files → HereAsked → (FunctionPlace → Registers) → Option Shown
shown_of f asked log = with_log (f.shown_in (string_bytes asked.folder)) log

-- what is told of the domains that the words ask for, of the machine in the folder and by the log that they name; each has
-- a heading where there are several
pub record IsOfDomains (words : List (List ℕ)) (f : Files)
    (Tells : Option Shown → What → Bool → List ℕ → Type 0) : Type 0 where
  pub asked : HereAsked
  pub of_words : IsHereAsked words asked
  pub log : FunctionPlace → Registers
  pub is_log : IsAskedLog f.text_at asked.log log
  pub domains : List ℕ
  pub are : AreAsked (shown_of f asked log) asked.domain domains
  pub tells : Tells (shown_of f asked log) asked.what (nat_lt 1 (length domains)) domains

-- nothing is asked for by the words, or memory was refused
abbrev pub IsUnasked : List (List ℕ) → ℕ → Type 0
IsUnasked words status = ((status ≡ 2) × AskForNothing words) ⊎ (status ≡ 3)

-- why the domains that are asked for can't be had: the machine shows none, or memory was refused
abbrev pub AreNotHad : Option Shown → Option ℕ → Trouble → Type 0
AreNotHad shown (Some domain) trouble = trouble ≡ Memory
AreNotHad shown None trouble = IfSome shown (λ m. HasNoDomains m trouble)

pub record IsWithoutDomains (words : List (List ℕ)) (f : Files) (status : ℕ) : Type 0 where
  pub asked : HereAsked
  pub of_words : IsHereAsked words asked
  pub log : FunctionPlace → Registers
  pub is_log : IsAskedLog f.text_at asked.log log
  pub trouble : Trouble
  pub are_not : AreNotHad (shown_of f asked log) asked.domain trouble
  pub status_is : status ≡ trouble_status trouble

-- the log that is asked for can't be had
pub record IsWithoutLog (words : List (List ℕ)) (f : Files) (status : ℕ) : Type 0 where
  pub asked : HereAsked
  pub of_words : IsHereAsked words asked
  pub trouble : Trouble
  pub is_not : HasNoLog f.text_at asked.log trouble
  pub status_is : status ≡ trouble_status trouble

-- each domain is told or unread, and the status is the greatest of theirs; or a write failed
abbrev pub IsHereDone : List (List ℕ) → Files → ℕ → Went → Type 0
IsHereDone words f status out =
    IsOfDomains words f
    (λ shown what headed domains. AreDomainsTold shown what headed domains status
    (Appends out.before out.after) ⊎ IsCutOff shown what headed domains status out)

-- nothing is written where the words ask for nothing, or the log or the domains can't be had
abbrev pub IsHereCommand : List (List ℕ) → Files → ℕ → Went → Type 0
IsHereCommand words f status out =
    ((IsUnasked words status ⊎ IsWithoutLog words f status ⊎ IsWithoutDomains words f status) × out.same)
    ⊎ IsHereDone words f status out
