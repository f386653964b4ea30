-- Words that are appended one by one.
use Rattle.std.proofs.Common.{◌≡◌, ◌∷◌, [], ◌++◌, ◌∙◌, ap, ℕ, ℤ, List, append_assoc, codes}
use Rattle.atto.specs.NsText.{ns_text}
use Rattle.line_format.specs.Words.{words}
use Rattle.problem_model.specs.declared.items.Bound.{Bound}
use Rattle.problem_model.specs.Problem.{ProblemLists}
use Rattle.problem_model.specs.BoundText.{bound_words}
use Rattle.problem.specs.Listing.{listing_of}
use Rattle.cert.specs.Listed.{listed_bound}
use Rattle.cert.proofs.OwnListing.{bound_is}
use Rattle.problem_commands.specs.Verify.{broken_words}

-- words, then those of a bound by its names, then two numbers
four_pieces : (ws word named : List (List ℕ)) (a b : List ℕ) → (((ws ++ word) ++ named) ++ a ∷ []) ++ b ∷ [] ≡ ws ++ (word ++ (named ++ (a ∷ b ∷ [])))
four_pieces ws word named a b =
    append_assoc ((ws ++ word) ++ named) (a ∷ []) (b ∷ []) ∙ append_assoc (ws ++ word) named (a ∷ b ∷ []) ∙ append_assoc ws word (named ++ (a ∷ b ∷ []))

pub broken_are : (p : ProblemLists) (b : Bound) (weight difference : ℤ) (first : List ℕ) (ws : List (List ℕ)) →
    words (first ∷ ((((ws ++ codes "broken" ∷ []) ++ listed_bound (listing_of p) b) ++ ns_text weight ∷ []) ++ ns_text difference ∷ [])) ≡ words (first ∷ ws ++ broken_words p b weight difference)
broken_are p b weight difference first ws =
    ap (λ (all : List (List ℕ)). words (first ∷ all)) (four_pieces ws (codes "broken" ∷ []) (listed_bound (listing_of p) b) (ns_text weight) (ns_text difference))
    ∙ ap (λ (named : List (List ℕ)). words (first ∷ ws ++ (codes "broken" ∷ (named ++ ns_text weight ∷ ns_text difference ∷ [])))) (bound_is p b)

-- the same behind one word alone
pub broken_line_is : (p : ProblemLists) (b : Bound) (weight difference : ℤ) →
    words (codes "broken" ∷ ((listed_bound (listing_of p) b ++ ns_text weight ∷ []) ++ ns_text difference ∷ [])) ≡ words (broken_words p b weight difference)
broken_line_is p b weight difference =
    ap (λ (all : List (List ℕ)). words (codes "broken" ∷ all)) (append_assoc (listed_bound (listing_of p) b) (ns_text weight ∷ []) (ns_text difference ∷ []))
    ∙ ap (λ (named : List (List ℕ)). words (codes "broken" ∷ named ++ ns_text weight ∷ ns_text difference ∷ [])) (bound_is p b)

pub leaving_are : (p : ProblemLists) (b : Bound) (first : List ℕ) (ws : List (List ℕ)) →
    words (first ∷ ((ws ++ codes "leaves" ∷ []) ++ listed_bound (listing_of p) b)) ≡ words (first ∷ ws ++ codes "leaves" ∷ bound_words p b)
leaving_are p b first ws =
    ap (λ (all : List (List ℕ)). words (first ∷ all)) (append_assoc ws (codes "leaves" ∷ []) (listed_bound (listing_of p) b))
    ∙ ap (λ (named : List (List ℕ)). words (first ∷ ws ++ codes "leaves" ∷ named)) (bound_is p b)
