use Rattle.std.proofs.Common.{rules}
use Rattle.commands.proofs.parse.longer_line.Goals as goal
use Rattle.commands.proofs.parse.longer_line.Goals.{in_default-via-then-word-lt3, in_default-via-else-word-lt3+then-word-lt4+in-112+in-105+in_default-1, in_default-via-else-word-lt3+then-word-lt4+in-112+in_default-1, in_default-via-else-word-lt3+then-word-lt4+in-107+in-101+in_default-1, in_default-via-else-word-lt3+then-word-lt4+in-107+in_default-1, in_default-via-else-word-lt3+then-word-lt4+in_default-1, in_default-via-else-word-lt3+else-word-lt4+then-word-lt5+in-111+in-112+in-101+in_default-1, in_default-via-else-word-lt3+else-word-lt4+then-word-lt5+in-111+in-112+in_default-1, in_default-via-else-word-lt3+else-word-lt4+then-word-lt5+in-111+in_default-1, in_default-via-else-word-lt3+else-word-lt4+then-word-lt5+in-116+in-105+in-99+in_default-1, in_default-via-else-word-lt3+else-word-lt4+then-word-lt5+in-116+in-105+in_default-1, in_default-via-else-word-lt3+else-word-lt4+then-word-lt5+in-116+in_default-1, in_default-via-else-word-lt3+else-word-lt4+then-word-lt5+in-104+in-101+in-97+in_default-1, in_default-via-else-word-lt3+else-word-lt4+then-word-lt5+in-104+in-101+in_default-1, in_default-via-else-word-lt3+else-word-lt4+then-word-lt5+in-104+in_default-1, in_default-via-else-word-lt3+else-word-lt4+then-word-lt5+in_default-1, in_default-via-else-word-lt3+else-word-lt4+else-word-lt5+then-word-lt6+in-115+in-104+in-101+in-108+in_default-1, in_default-via-else-word-lt3+else-word-lt4+else-word-lt5+then-word-lt6+in-115+in-104+in-101+in_default-1, in_default-via-else-word-lt3+else-word-lt4+else-word-lt5+then-word-lt6+in-115+in-104+in_default-1, in_default-via-else-word-lt3+else-word-lt4+else-word-lt5+then-word-lt6+in-115+in_default-1, in_default-via-else-word-lt3+else-word-lt4+else-word-lt5+then-word-lt6+in_default-1, in_default-via-else-word-lt3+else-word-lt4+else-word-lt5+else-word-lt6+then-word-lt7, in_default-via-else-word-lt3+else-word-lt4+else-word-lt5+else-word-lt6+else-word-lt7+then-word-lt8+in-112+in-114+in-111+in-112-word-24+in-111-word-25+in-115+in_default-1, in_default-via-else-word-lt3+else-word-lt4+else-word-lt5+else-word-lt6+else-word-lt7+then-word-lt8+in-112+in-114+in-111+in-112-word-24+in-111-word-25+in_default-1, in_default-via-else-word-lt3+else-word-lt4+else-word-lt5+else-word-lt6+else-word-lt7+then-word-lt8+in-112+in-114+in-111+in-112-word-24+in_default-1, in_default-via-else-word-lt3+else-word-lt4+else-word-lt5+else-word-lt6+else-word-lt7+then-word-lt8+in-112+in-114+in-111+in_default-1, in_default-via-else-word-lt3+else-word-lt4+else-word-lt5+else-word-lt6+else-word-lt7+then-word-lt8+in-112+in-114+in_default-1, in_default-via-else-word-lt3+else-word-lt4+else-word-lt5+else-word-lt6+else-word-lt7+then-word-lt8+in-112+in_default-1, in_default-via-else-word-lt3+else-word-lt4+else-word-lt5+else-word-lt6+else-word-lt7+then-word-lt8+in_default-1, in_default-via-else-word-lt3+else-word-lt4+else-word-lt5+else-word-lt6+else-word-lt7+else-word-lt8}

-- each way to differ from all of the words
pub returns-in_default : goal.returns-in_default
returns-in_default c =
    elim c.in_default.branch [ in_default-via-then-word-lt3 w ↦ search rules | in_default-via-else-word-lt3+then-word-lt4+in-112+in-105+in_default-1 w ↦ search rules | in_default-via-else-word-lt3+then-word-lt4+in-112+in_default-1 w ↦ search rules | in_default-via-else-word-lt3+then-word-lt4+in-107+in-101+in_default-1 w ↦ search rules | in_default-via-else-word-lt3+then-word-lt4+in-107+in_default-1 w ↦ search rules | in_default-via-else-word-lt3+then-word-lt4+in_default-1 w ↦ search rules | in_default-via-else-word-lt3+else-word-lt4+then-word-lt5+in-111+in-112+in-101+in_default-1 w ↦ search rules | in_default-via-else-word-lt3+else-word-lt4+then-word-lt5+in-111+in-112+in_default-1 w ↦ search rules | in_default-via-else-word-lt3+else-word-lt4+then-word-lt5+in-111+in_default-1 w ↦ search rules | in_default-via-else-word-lt3+else-word-lt4+then-word-lt5+in-116+in-105+in-99+in_default-1 w ↦ search rules | in_default-via-else-word-lt3+else-word-lt4+then-word-lt5+in-116+in-105+in_default-1 w ↦ search rules | in_default-via-else-word-lt3+else-word-lt4+then-word-lt5+in-116+in_default-1 w ↦ search rules | in_default-via-else-word-lt3+else-word-lt4+then-word-lt5+in-104+in-101+in-97+in_default-1 w ↦ search rules | in_default-via-else-word-lt3+else-word-lt4+then-word-lt5+in-104+in-101+in_default-1 w ↦ search rules | in_default-via-else-word-lt3+else-word-lt4+then-word-lt5+in-104+in_default-1 w ↦ search rules | in_default-via-else-word-lt3+else-word-lt4+then-word-lt5+in_default-1 w ↦ search rules | in_default-via-else-word-lt3+else-word-lt4+else-word-lt5+then-word-lt6+in-115+in-104+in-101+in-108+in_default-1 w ↦ search rules | in_default-via-else-word-lt3+else-word-lt4+else-word-lt5+then-word-lt6+in-115+in-104+in-101+in_default-1 w ↦ search rules | in_default-via-else-word-lt3+else-word-lt4+else-word-lt5+then-word-lt6+in-115+in-104+in_default-1 w ↦ search rules | in_default-via-else-word-lt3+else-word-lt4+else-word-lt5+then-word-lt6+in-115+in_default-1 w ↦ search rules | in_default-via-else-word-lt3+else-word-lt4+else-word-lt5+then-word-lt6+in_default-1 w ↦ search rules | in_default-via-else-word-lt3+else-word-lt4+else-word-lt5+else-word-lt6+then-word-lt7 w ↦ search rules | in_default-via-else-word-lt3+else-word-lt4+else-word-lt5+else-word-lt6+else-word-lt7+then-word-lt8+in-112+in-114+in-111+in-112-word-24+in-111-word-25+in-115+in_default-1 w ↦ search rules | in_default-via-else-word-lt3+else-word-lt4+else-word-lt5+else-word-lt6+else-word-lt7+then-word-lt8+in-112+in-114+in-111+in-112-word-24+in-111-word-25+in_default-1 w ↦ search rules | in_default-via-else-word-lt3+else-word-lt4+else-word-lt5+else-word-lt6+else-word-lt7+then-word-lt8+in-112+in-114+in-111+in-112-word-24+in_default-1 w ↦ search rules | in_default-via-else-word-lt3+else-word-lt4+else-word-lt5+else-word-lt6+else-word-lt7+then-word-lt8+in-112+in-114+in-111+in_default-1 w ↦ search rules | in_default-via-else-word-lt3+else-word-lt4+else-word-lt5+else-word-lt6+else-word-lt7+then-word-lt8+in-112+in-114+in_default-1 w ↦ search rules | in_default-via-else-word-lt3+else-word-lt4+else-word-lt5+else-word-lt6+else-word-lt7+then-word-lt8+in-112+in_default-1 w ↦ search rules | in_default-via-else-word-lt3+else-word-lt4+else-word-lt5+else-word-lt6+else-word-lt7+then-word-lt8+in_default-1 w ↦ search rules | in_default-via-else-word-lt3+else-word-lt4+else-word-lt5+else-word-lt6+else-word-lt7+else-word-lt8 w ↦ search rules ]
