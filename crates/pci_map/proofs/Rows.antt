-- What is sent to the root above each bus, as a table.
use Rattle.std.proofs.Common.{◌≡◌, ℕ, ◌+◌, ◌<◌, List, [], ◌∷◌, ◌++◌, map, Option, None, Some, false, refl, length, get_or, sym, ap, ◌∙◌, subst, inl, inr, arith}
use Rattle.std.specs.Option.{is_some, option_map}
use Rattle.std.proofs.lemmas.Bool.{cases_lt, false≢true}
use Rattle.std.proofs.lemmas.List.{get_or_append_left, get_or_push, length_push}
use Rattle.pci_spec.specs.System.{System, Io, Memory}
use Rattle.judge_spec.specs.Given.{Given, ranges_said}
use Rattle.pci_claims.specs.Values.{host_value, code_given_value}
use Rattle.pci_claims.specs.declared.given.Given as declared
use Rattle.pci_map.specs.Above.{AreRootsAbove, AreRowsSentAbove}
use Rattle.pci_map.specs.Addresses.{SpaceRanges, AreSent}

none_mapped : {X Y : Type 0} (f : X → Y) (o : Option X) → is_some o ≡ false → option_map f o ≡ None
none_mapped f None none = refl
none_mapped f (Some x) none = absurd (false≢true (sym none))

pub io_none : (given : declared.Given) → is_some given.io ≡ false → ranges_said (code_given_value given) Io ≡ None
io_none given none = none_mapped (λ rs. map host_value rs.now) given.io none

pub memory_none : (given : declared.Given) → is_some given.memory ≡ false → ranges_said (code_given_value given) Memory ≡ None
memory_none given none = none_mapped (λ rs. map host_value rs.now) given.memory none

module _ (given : Given) (table : List ℕ) where
  -- at each bus before an end what is sent to the root that a table has there
  pub record AreRowsBelow (end : ℕ) (rows : List SpaceRanges) : Type 0 where
    pub size : length rows ≡ end
    pub each : (bus : ℕ) (d : SpaceRanges) → bus < end → AreSent given (get_or table bus 0) (get_or rows bus d)

  pub no_rows : (rows : List SpaceRanges) → rows ≡ [] → AreRowsBelow 0 rows
  no_rows rows none = record { size = ap length none; each = λ bus d low. absurd (let no : ⊥ = omega (arith, low) in no) }

  pub one_row : (end root : ℕ) (rows new : List SpaceRanges) (row : SpaceRanges) → root ≡ get_or table end 0 → new ≡ rows ++ row ∷ [] → AreRowsBelow end rows → AreSent given root row → AreRowsBelow (end + 1) new
  one_row end root rows new row at is was sent = record {
    size = ap length is ∙ length_push rows row ∙ ap (λ n. n + 1) was.size;
    each = λ bus d low. subst (λ xs. AreSent given (get_or table bus 0) (get_or xs bus d)) (sym is) (elim (cases_lt bus end) [
      | inl less ↦ (
          let early : get_or (rows ++ row ∷ []) bus d ≡ get_or rows bus d = get_or_append_left rows (row ∷ []) d bus (let size = was.size in omega (arith, less, size)) in
          subst (AreSent given (get_or table bus 0)) (sym early) (was.each bus d less))
      | inr up ↦ (
          let same : end ≡ bus = omega (arith, up, low) in
          let late : get_or (rows ++ row ∷ []) bus d ≡ row = get_or_push rows row d bus (was.size ∙ same) in
          subst (AreSent given (get_or table bus 0)) (sym late) (subst (λ n. AreSent given n row) (at ∙ ap (λ n. get_or table n 0) same) sent))
    ]);
  }

  pub rows_are : (roots : List ℕ) (s : System) (end : ℕ) (rows : List SpaceRanges) → end ≡ 256 → AreRowsBelow end rows → AreRootsAbove roots s table → AreRowsSentAbove given roots s rows
  rows_are roots s end rows is below above = record {
    size = below.size ∙ is;
    each = λ f d listed small. record {
      root = get_or table f.slot.bus 0;
      above = above f listed;
      are = below.each f.slot.bus d (omega (arith, small, is));
    };
  }
