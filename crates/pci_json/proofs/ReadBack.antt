-- What is printed of a value reads back as the value.
use Rattle.std.proofs.Common.{arith, ◌≡◌, ◌≤◌, List, [], sym, ap, ◌∙◌, append-nil}
use Rattle.std.specs.Prelude.{Some}
use Rattle.json.specs.Json.{Json, value}
use Rattle.json.specs.Lex.{tokens}
use Rattle.json.specs.Print.{print}
use Rattle.json.specs.Token.{Token}
use Rattle.json.specs.Tree.{json_tokens, depth}
use Rattle.json.proofs.Printed.Trees.{value-json_tokens}

pub read_back : (j : Json) (made : List Token) → made ≡ json_tokens j → tokens (print made) ≡ made → value (depth j) (tokens (print (json_tokens j))) ≡ Some (j, [])
read_back j made is lexed =
    let same : depth j ≤ depth j = omega arith in
    ap (λ t. value (depth j) (tokens (print t))) (sym is) ∙ ap (value (depth j)) (lexed ∙ is ∙ sym (append-nil (json_tokens j)))
    ∙ value-json_tokens j (depth j) [] same
