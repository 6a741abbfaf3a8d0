-- The places and the domains that names tell, one name at a time.
use Rattle.std.proofs.Common.{◌≡◌, ℕ, ◌+◌, ◌<◌, List, [], ◌∷◌, ◌++◌, String, length, get_or, take, map, string_bytes, eqb, refl, sym, ◌∙◌, ap, subst, inl, inr, arith}
use Rattle.std.specs.Global.{Global}
use Rattle.std.proofs.lemmas.List.{take_more, map-append}
use Rattle.std.specs.List.{Contains, dedup}
use Rattle.std.specs.List.Retain.{IsFiltered, DiffersFromLast}
use Rattle.std.specs.List.Sorted.{IsPermutation, IsSorted, IsStrictlyIncreasing}
use Rattle.std.specs.Ordering.{nat_cmp}
use Rattle.std.proofs.lemmas.List.Elements.{Contains-append_left, Contains-push, Contains-push_cases}
use Rattle.std.proofs.lemmas.List.Filters.{dedup_is}
use Rattle.std.proofs.lemmas.List.Kept.{Contains-dedup_nat, Contains-from_dedup}
use Rattle.std.proofs.lemmas.Map.Keys.{IsStrictlyIncreasing-dedup}
use Rattle.std.proofs.lemmas.List.Sorted.{Contains-permutation, IsPermutation-sym}
use Rattle.pci_spec.proofs.Members.{in_nil}
use Rattle.pci_here.specs.Place.{FunctionPlace, IsPlaceName}
use Rattle.pci_here.specs.Places.{IsPlaceNamed, IsDomainNamed, IsOfNoPlace, ArePlacesOfNames, AreDomainsIn}

named_left : (names : List (List ℕ)) (name : List ℕ) (domain : ℕ) (p : FunctionPlace) → IsPlaceNamed names domain p → IsPlaceNamed (names ++ name ∷ []) domain p
named_left names name domain p is =
    record { name = is.name; has = Contains-append_left names (name ∷ []) is.name is.has; is = is.is; of_domain = is.of_domain }

-- a name more that tells no place of the domain
pub named_same : (names : List (List ℕ)) (name : List ℕ) (domain : ℕ) (places : List FunctionPlace) → IsOfNoPlace name domain
    → ArePlacesOfNames names domain places → ArePlacesOfNames (names ++ name ∷ []) domain places
named_same [] name domain places none was = inr (none, was)
named_same (first ∷ names) name domain places none (inl (p, more, tells, of_domain, rest, is)) =
    inl (p, more, tells, of_domain, named_same names name domain more none rest, is)
named_same (first ∷ names) name domain places none (inr (other, rest)) = inr (other, named_same names name domain places none rest)

-- a name more that tells one
pub named_more : (names : List (List ℕ)) (name : List ℕ) (domain : ℕ) (places : List FunctionPlace) (q : FunctionPlace) → IsPlaceName name q → q.domain ≡ domain
    → ArePlacesOfNames names domain places → ArePlacesOfNames (names ++ name ∷ []) domain (places ++ q ∷ [])
named_more [] name domain places q tells of_domain was = inl (q, [], tells, of_domain, refl, ap (λ l. l ++ q ∷ []) was)
named_more (first ∷ names) name domain places q tells of_domain (inl (p, more, is_of, here, rest, is)) =
    inl (p, more ++ q ∷ [], is_of, here, named_more names name domain more q tells of_domain rest, ap (λ l. l ++ q ∷ []) is)
named_more (first ∷ names) name domain places q tells of_domain (inr (other, rest)) = inr (other, named_more names name domain places q tells of_domain rest)

-- the first names, with one more
pub names_step : (names : List (String Global)) (i : ℕ) (n : String Global) (name : List ℕ) → i < length names → n ≡ get_or names i n → name ≡ string_bytes n
    → map string_bytes (take i names) ++ name ∷ [] ≡ map string_bytes (take (i + 1) names)
names_step names i n name inside at is =
    ap (λ x. map string_bytes (take i names) ++ x ∷ []) is ∙ sym (map-append string_bytes (take i names) (n ∷ []))
    ∙ ap (λ l. map string_bytes l) (ap (λ x. take i names ++ x ∷ []) at ∙ sym (take_more names i n inside))

pub no_domain_named : AreDomainsIn [] []
no_domain_named d = (λ has. absurd (in_nil d has), λ is. absurd (in_nil is.1.name is.1.has))

domain_left : (names : List (List ℕ)) (name : List ℕ) (d : ℕ) → IsDomainNamed names d → IsDomainNamed (names ++ name ∷ []) d
domain_left names name d is = (is.0, named_left names name d is.0 is.1)

-- a name that tells no place
pub domain_same : (names : List (List ℕ)) (name : List ℕ) (domains : List ℕ) → ((p : FunctionPlace) → IsPlaceName name p → ⊥)
    → AreDomainsIn names domains → AreDomainsIn (names ++ name ∷ []) domains
domain_same names name domains none was d = (
  λ has. domain_left names name d ((was d).0 has),
  λ is. elim (Contains-push_cases names name is.1.name is.1.has) [
    | inl before ↦ (was d).1 (is.0, record { name = is.1.name; has = before; is = is.1.is; of_domain = is.1.of_domain })
    | inr here ↦ absurd (none is.0 (subst (λ n. IsPlaceName n is.0) (sym here) is.1.is))
  ],
)

-- a name that tells one
pub domain_more : (names : List (List ℕ)) (name : List ℕ) (domains : List ℕ) (q : FunctionPlace) → IsPlaceName name q → ((p : FunctionPlace) → IsPlaceName name p → q ≡ p)
    → AreDomainsIn names domains → AreDomainsIn (names ++ name ∷ []) (domains ++ q.domain ∷ [])
domain_more names name domains q tells only was d = (
  λ has. elim (Contains-push_cases domains q.domain d has) [
    | inl before ↦ domain_left names name d ((was d).0 before)
    | inr here ↦ (q, record { name = name; has = Contains-push names name; is = tells; of_domain = here })
  ],
  λ is. elim (Contains-push_cases names name is.1.name is.1.has) [
    | inl before ↦ Contains-append_left domains (q.domain ∷ []) d ((was d).1 (is.0, record { name = is.1.name; has = before; is = is.1.is; of_domain = is.1.of_domain }))
    | inr here ↦ (let same : q.domain ≡ d = ap (λ (p : FunctionPlace). p.domain) (only is.0 (subst (λ n. IsPlaceName n is.0) (sym here) is.1.is)) ∙ is.1.of_domain in
        subst (λ x. Contains (domains ++ q.domain ∷ []) x) same (Contains-push domains q.domain))
  ],
)

domains_moved : (names : List (List ℕ)) (domains sorted : List ℕ) → IsPermutation domains sorted → AreDomainsIn names domains → AreDomainsIn names sorted
domains_moved names domains sorted moved was d = (
  λ has. (was d).0 (Contains-permutation sorted domains d (IsPermutation-sym domains sorted moved) has),
  λ is. Contains-permutation domains sorted d moved ((was d).1 is),
)

-- each domain once
pub domains_once : (names : List (List ℕ)) (domains sorted once : List ℕ) → IsPermutation domains sorted → IsFiltered (DiffersFromLast eqb) [] sorted once
    → AreDomainsIn names domains → AreDomainsIn names once
domains_once names domains sorted once moved filtered was d =
    let in_order = domains_moved names domains sorted moved was d in
    let is : once ≡ dedup eqb sorted = dedup_is eqb sorted once filtered in (
      λ has. in_order.0 (Contains-from_dedup eqb sorted d (subst (λ l. Contains l d) is has)),
      λ named. subst (λ l. Contains l d) (sym is) (Contains-dedup_nat sorted d (in_order.1 named)),
    )

pub domains_rise : (sorted once : List ℕ) → IsSorted nat_cmp sorted → IsFiltered (DiffersFromLast eqb) [] sorted once → IsStrictlyIncreasing once
domains_rise sorted once rising filtered = subst IsStrictlyIncreasing (sym (dedup_is eqb sorted once filtered)) (IsStrictlyIncreasing-dedup sorted rising)

pub none_named : (names : List (List ℕ)) (domains : List ℕ) → AreDomainsIn names domains → length domains ≡ 0 → (d : ℕ) → IsDomainNamed names d → ⊥
none_named names [] are none d is = in_nil d ((are d).1 is)
none_named names (x ∷ domains) are none d is = omega (arith, none)
