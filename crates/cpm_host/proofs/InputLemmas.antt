-- What was read up to a limit that it does not reach is all.
use Rattle.std.proofs.Common.{◌≡◌, ◌∙◌, ◌++◌, ap, ℕ, ◌≤◌, ◌+◌, List, [], Option, Some, None, length, take, min, arith, option_map, IfSome}
use Rattle.std.proofs.lemmas.List.{length-take, take_all}

pub whole_read : (known : Option (List ℕ)) (start got : List ℕ) (limit most : ℕ) → limit ≡ most + 1 → start ≡ []
    → IfSome (option_map (take limit) known) (λ xs. got ≡ start ++ xs) → length got ≤ most → IfSome known (λ xs. got ≡ xs)
whole_read None start got limit most above none read fits = tt
whole_read (Some xs) start got limit most above none read fits =
    let is : got ≡ take limit xs = read ∙ ap (λ s. s ++ take limit xs) none in
    let long : length got ≡ min limit (length xs) = ap length is ∙ length-take limit xs in
    let within : length xs ≤ limit = omega arith in
    is ∙ take_all limit xs within
