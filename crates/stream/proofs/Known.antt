-- Laws of the bytes that a reader has left and that a writer holds, where those are known. Assumes nothing.
use Rattle.std.proofs.Common.{◌≡◌, ℕ, ◌+◌, ◌-◌, ◌≤◌, List, ◌++◌, length, take, drop, sym, ap, subst, ◌∙◌, append_assoc, length-take-le}
use Rattle.std.proofs.Math.Seq.{take-append-add, take-add}
use Rattle.std.proofs.lemmas.List.{take-append-le, take_rest}
use Rattle.std.specs.declared.option.Option.{Option}
use Rattle.std.specs.declared.option.Option.TheVariants.{None, Some}
use Rattle.std.specs.Io.KnownBytes.{Keeps, Appends, Consumes}

pub consumes_twice : (a b c : Option (List ℕ)) (bs cs : List ℕ) → Consumes a b bs → Consumes b c cs → Consumes a c (bs ++ cs)
consumes_twice None b c bs cs h k = tt
consumes_twice (Some xs) None c bs cs h k = absurd h
consumes_twice (Some xs) (Some ys) None bs cs h k = absurd k
consumes_twice (Some xs) (Some ys) (Some zs) bs cs h k = h ∙ (ap (λ (l : List ℕ). bs ++ l) k ∙ sym (append_assoc bs cs zs))

pub appends_then_keeps : (a b c : Option (List ℕ)) (bs : List ℕ) → Appends a b bs → Keeps b c → Appends a c bs
appends_then_keeps None b c bs h k = tt
appends_then_keeps (Some xs) None c bs h k = absurd h
appends_then_keeps (Some xs) (Some ys) None bs h k = absurd k
appends_then_keeps (Some xs) (Some ys) (Some zs) bs h k = k ∙ h

pub appends_twice : (a b c : Option (List ℕ)) (bs cs : List ℕ) → Appends a b bs → Appends b c cs → Appends a c (bs ++ cs)
appends_twice None b c bs cs h k = tt
appends_twice (Some xs) None c bs cs h k = absurd h
appends_twice (Some xs) (Some ys) None bs cs h k = absurd k
appends_twice (Some xs) (Some ys) (Some zs) bs cs h k = k ∙ (ap (λ (l : List ℕ). l ++ cs) h ∙ append_assoc xs bs cs)

-- what was read behind the first d bytes of a buffer stands behind them
pub take_behind : (d k : ℕ) (s t r : List ℕ) → d ≤ length s → k ≤ length t
    → take (d + k) (take d s ++ (t ++ r)) ≡ take d s ++ take k t
take_behind d k s t r h i =
    let e : length (take d s) ≡ d = length-take-le d s h in
    subst (λ (n : ℕ). take (n + k) (take d s ++ (t ++ r)) ≡ take d s ++ take k t) e
    (take-append-add (take d s) (t ++ r) k ∙ ap (λ (l : List ℕ). take d s ++ l) (take-append-le k t r i))

-- the first n bytes of what stands behind the first d
pub take_more : (d n : ℕ) (text : List ℕ) → take (d + n) text ≡ take d text ++ take n (take (length text - d) (drop d text))
take_more d n text = take-add d n text ∙ ap (λ (l : List ℕ). take d text ++ take n l) (sym (take_rest text d))
