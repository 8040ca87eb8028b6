-- What is said where a line of a pit cannot be played.
use Rattle.std.specs.Prelude.{ℕ, List, codes}
use Rattle.pit.specs.declared.trouble.Trouble.{Trouble}
use Rattle.pit.specs.declared.trouble.Trouble.TheVariants.{NoPit, NotOpen, NoKeys, NoMemory}

abbrev pub trouble_told : Trouble → List ℕ
trouble_told NoPit = codes "no pit stands"
trouble_told NotOpen = codes "the console is not open"
trouble_told NoKeys = codes "a pit of open stamps has no keys"
trouble_told NoMemory = codes "no memory left"
