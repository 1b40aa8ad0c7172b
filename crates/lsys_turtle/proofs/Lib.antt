mod Reaches
