-- The texts of sessions, one after the other.
use Rattle.std.proofs.Common.{◌≡◌, ◌+◌, ◌<◌, ℕ, suc, List, [], ◌∷◌, ◌++◌, length, take, drop, get_or, sym, ap, ◌∙◌, append_assoc, arith}
use Rattle.std.proofs.lemmas.List.{append-nil, drop_more, length-take, take-append-drop, take_more}
use Rattle.ff_report.specs.Text.{session_text}
use Rattle.ff_sessions.specs.declared.session.Session.{Session}
use Rattle.flatflash.specs.Ending.{told_parts, sessions_text}

-- the texts of some sessions, and then of others
sessions_text-append : (at : ℕ) (xs ys : List Session)
    → sessions_text at (xs ++ ys) ≡ sessions_text at xs ++ sessions_text (at + length xs) ys
sessions_text-append at [] ys =
    let here : at + 0 ≡ at = omega arith in ap (λ (k : ℕ). sessions_text k ys) (sym here)
sessions_text-append at (x ∷ xs) ys =
    let there : at + 1 + length xs ≡ at + suc (length xs) = omega arith in
    ap (λ (l : List ℕ). session_text at (told_parts x) ++ l)
    (sessions_text-append (at + 1) xs ys ∙ ap (λ (k : ℕ). sessions_text (at + 1) xs ++ sessions_text k ys) there)
    ∙ sym (append_assoc (session_text at (told_parts x)) (sessions_text (at + 1) xs) (sessions_text (at + suc (length xs)) ys))

-- the texts are those before a session and its own, and then those after it
pub sessions_text-at : (xs : List Session) (i : ℕ) (x : Session) → i < length xs → x ≡ get_or xs i x
    → sessions_text 0 xs ≡ (sessions_text 0 (take i xs) ++ session_text i (told_parts x)) ++ sessions_text (i + 1) (drop (i + 1) xs)
sessions_text-at xs i x within is =
    let before : 0 + length (take i xs) ≡ i = omega (arith, length-take i xs) in
    ap (sessions_text 0) (sym (take-append-drop i xs)) ∙ sessions_text-append 0 (take i xs) (drop i xs)
    ∙ ap (λ (k : ℕ). sessions_text 0 (take i xs) ++ sessions_text k (drop i xs)) before
    ∙ ap (λ (l : List Session). sessions_text 0 (take i xs) ++ sessions_text i l)
    (drop_more xs i x within ∙ ap (λ (y : Session). y ∷ drop (i + 1) xs) (sym is))
    ∙ sym (append_assoc (sessions_text 0 (take i xs)) (session_text i (told_parts x)) (sessions_text (i + 1) (drop (i + 1) xs)))

-- one text more
pub sessions_text-more : (xs : List Session) (i : ℕ) (x : Session) → i < length xs → x ≡ get_or xs i x
    → sessions_text 0 (take (i + 1) xs) ≡ sessions_text 0 (take i xs) ++ session_text i (told_parts x)
sessions_text-more xs i x within is =
    let before : 0 + length (take i xs) ≡ i = omega (arith, length-take i xs) in
    ap (sessions_text 0) (take_more xs i x within ∙ ap (λ (y : Session). take i xs ++ y ∷ []) (sym is))
    ∙ sessions_text-append 0 (take i xs) (x ∷ [])
    ∙ ap (λ (k : ℕ). sessions_text 0 (take i xs) ++ (session_text k (told_parts x) ++ [])) before
    ∙ ap (λ (l : List ℕ). sessions_text 0 (take i xs) ++ l) (append-nil (session_text i (told_parts x)))
