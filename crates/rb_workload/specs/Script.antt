-- The script that `work` runs.
use Rattle.std.specs.Prelude.{ℕ, List, [], ◌∷◌, ◌++◌, codes}
use Rattle.std.specs.List.{concat}
use Rattle.std.specs.Fmt.{decimal}

abbrev pub Text : Type 0
Text = List ℕ

-- a line ends with a line feed
abbrev pub line : Text → Text
line text = text ++ codes "\n"

-- its lines: the four threads begin at the number and the three behind it, and fill so many places of an array by turns
abbrev pub lines : ℕ → ℕ → List Text
lines number size =
    line (codes "$a = Array.new(" ++ decimal size ++ codes ", 0)")
    ∷ line (codes "$m = Mutex.new")
    ∷ line (codes "$t = 0")
    ∷ line (codes "threads = []")
    ∷ line (codes "4.times do |k|")
    ∷ line (codes "  threads << Thread.new(k) do |j|")
    ∷ line (codes "    s = " ++ decimal number ++ codes " + j")
    ∷ line (codes "    i = j")
    ∷ line (codes "    while i < " ++ decimal size)
    ∷ line (codes "      s = (s * 1103515245 + 12345) % 2147483648")
    ∷ line (codes "      $a[i] = s % 1000")
    ∷ line (codes "      i += 4")
    ∷ line (codes "    end")
    ∷ line (codes "    $m.synchronize { $t += s % 1000 }")
    ∷ line (codes "  end")
    ∷ line (codes "end")
    ∷ line (codes "threads.each { |x| x.join }")
    ∷ line (codes "sum = 0")
    ∷ line (codes "$a.each { |v| sum += v }")
    ∷ line (codes "puts sum")
    ∷ line (codes "puts $t")
    ∷ []

unfoldable pub script : ℕ → ℕ → Text
script number size = concat (lines number size)
