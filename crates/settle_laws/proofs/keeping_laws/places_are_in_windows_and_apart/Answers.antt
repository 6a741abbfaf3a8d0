use Rattle.settle_laws.proofs.Keeping.Ends.{in_window, on_root, are_apart}
use Rattle.settle_laws.proofs.keeping_laws.places_are_in_windows_and_apart.Goals as goal

pub returns-clause-listed : goal.returns-clause-listed
returns-clause-listed c = λ q s k can f p t is root. on_root q s k can f p is.0 is.1 root t is.2

pub returns-clause-inside : goal.returns-clause-inside
returns-clause-inside c = λ q s k can f b p t is leads. let over = in_window q s k can f b p is.0 is.1 leads t is.2 in (over.w, over.ends, over.inside)

pub returns-clause-apart : goal.returns-clause-apart
returns-clause-apart c = λ q s k can f g p r t u is_t is_u space beside two. are_apart q s k can f g p r is_t.0 is_u.0 is_t.1 is_u.1 space beside two t u is_t.2 is_u.2
