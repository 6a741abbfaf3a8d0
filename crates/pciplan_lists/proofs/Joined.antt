-- Words that are joined by commas: what is read of them, and that nothing else is joined so.
use Rattle.std.proofs.Common.{◌≡◌, ℕ, List, [], ◌∷◌, ◌++◌, length, get_or, drop, Option, None, Some, Bor, refl, sym, ◌∙◌, ap, subst, arith}
use Rattle.std.proofs.lemmas.List.{append_assoc, append-nil}
use Rattle.pciplan_lists.specs.Joined.{AreJoined, rest_with_comma}
use Rattle.pciplan_lists.proofs.Without.{Without, IsBehind, cut_same}

pub behind_part : (left : Option (Bor (List ℕ))) → IsBehind 44 (rest_with_comma left)
behind_part None = λ some. absurd (omega (arith, some))
behind_part (Some left) = λ some. refl

-- things whose words have no comma
module _ {X : Type 0} (Is : List ℕ → X → Type 0) (clean : (word : List ℕ) (x : X) → Is word x → Without 44 word) where
  behind_joined : (text : List ℕ) (list : List X) → AreJoined Is text list → IsBehind 44 text
  behind_joined text [] are = λ some. absurd (omega (arith, some, ap length are))
  behind_joined text (x ∷ list) are = λ some. ap (λ t. get_or t 0 0) are.1.parts

  -- the things behind those that were read, in what is left
  pub record IsLeft (text : List ℕ) (done list : List X) : Type 0 where
    pub more : List X
    pub parts : list ≡ done ++ more
    pub are : AreJoined Is text more

  -- what was read of a list, and what is left of it
  pub record IsRead (whole text : List ℕ) (done : List X) : Type 0 where
    pub on : (more : List X) → AreJoined Is text more → AreJoined Is whole (done ++ more)
    pub back : (list : List X) → AreJoined Is whole list → IsLeft text done list

  pub read_none : (whole : List ℕ) → IsRead whole whole []
  read_none whole = record { on = λ more are. are; back = λ list are. record { more = list; parts = refl; are = are } }

  -- something was read so
  pub record HasRead (whole text : List ℕ) : Type 0 where
    pub done : List X
    pub read : IsRead whole text done

  -- the first thing of what is left is that of the first part
  pub record IsFirst (first rest : List ℕ) (x : X) (more : List X) : Type 0 where
    pub is : Is first x
    pub are : AreJoined Is rest more

  pub first_same : (first rest : List ℕ) (x : X) (more : List X) → Without 44 first → IsBehind 44 rest
      → AreJoined Is (44 ∷ (first ++ rest)) (x ∷ more) → IsFirst first rest x more
  first_same first rest x more none at are =
      let same = cut_same 44 are.1.word first are.0 rest (clean are.1.word x are.1.is) none (behind_joined are.0 more are.2) at
      (ap (λ t. drop 1 t) (sym are.1.parts)) in
      record { is = subst (λ w. Is w x) same.0 are.1.is; are = subst (λ t. AreJoined Is t more) same.1 are.2 }

  bad_first : (text first : List ℕ) (left : Option (Bor (List ℕ))) → text ≡ 44 ∷ (first ++ rest_with_comma left) → Without 44 first
      → ((x : X) → Is first x → ⊥) → (more : List X) → AreJoined Is text more → ⊥
  bad_first text first left is none bad [] are = omega (arith, ap length (sym is ∙ are))
  bad_first text first left is none bad (x ∷ more) are =
      bad x (first_same first (rest_with_comma left) x more none (behind_part left) (subst (λ t. AreJoined Is t (x ∷ more)) is are)).is

  -- a part that is no word is in no list
  pub read_bad : (whole text first : List ℕ) (left : Option (Bor (List ℕ))) (done : List X) → IsRead whole text done
      → text ≡ 44 ∷ (first ++ rest_with_comma left) → Without 44 first → ((x : X) → Is first x → ⊥)
      → (list : List X) → AreJoined Is whole list → ⊥
  read_bad whole text first left done read is none bad list are =
      let l = read.back list are in
      bad_first text first left is none bad l.more l.are

  left_more : (text first : List ℕ) (left : Option (Bor (List ℕ))) (done : List X) (x : X)
      → text ≡ 44 ∷ (first ++ rest_with_comma left) → Without 44 first → ((y : X) → Is first y → x ≡ y)
      → (list more : List X) → list ≡ done ++ more → AreJoined Is text more → IsLeft (rest_with_comma left) (done ++ x ∷ []) list
  left_more text first left done x is none only list [] parts are = absurd (omega (arith, ap length (sym is ∙ are)))
  left_more text first left done x is none only list (y ∷ more) parts are =
      let same = first_same first (rest_with_comma left) y more none (behind_part left) (subst (λ t. AreJoined Is t (y ∷ more)) is are) in
      record {
        more = more;
        parts = parts ∙ ap (λ z. done ++ z ∷ more) (sym (only y same.is)) ∙ sym (append_assoc done (x ∷ []) more);
        are = same.are;
      }

  -- one more
  pub read_more : (whole text first : List ℕ) (left : Option (Bor (List ℕ))) (done : List X) (x : X) → IsRead whole text done
      → text ≡ 44 ∷ (first ++ rest_with_comma left) → Without 44 first → Is first x
      → ((y : X) → Is first y → x ≡ y) → IsRead whole (rest_with_comma left) (done ++ x ∷ [])
  read_more whole text first left done x read is none word only = record {
    on = λ more are. subst (λ l. AreJoined Is whole l) (sym (append_assoc done (x ∷ []) more))
        (read.on (x ∷ more) (rest_with_comma left, record { word = first; is = word; parts = is }, are));
    back = λ list are.
        let l = read.back list are in
        left_more text first left done x is none only list l.more l.parts l.are;
  }

  -- those that were read are all
  none_left : (done list more : List X) → list ≡ done ++ more → AreJoined Is [] more → done ≡ list
  none_left done list [] parts are = sym (parts ∙ append-nil done)
  none_left done list (x ∷ more) parts are = absurd (omega (arith, ap length are.1.parts))

  pub read_all : (word : List ℕ) (done : List X) → IsRead (44 ∷ word) [] done → AreJoined Is (44 ∷ word) done
  read_all word done read = subst (λ l. AreJoined Is (44 ∷ word) l) (append-nil done) (read.on [] refl)

  pub read_only : (word : List ℕ) (done : List X) → IsRead (44 ∷ word) [] done → (list : List X) → AreJoined Is (44 ∷ word) list → done ≡ list
  read_only word done read list are =
      let l = read.back list are in
      none_left done list l.more l.parts l.are
